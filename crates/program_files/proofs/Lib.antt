mod CopiedSectors
