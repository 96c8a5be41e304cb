mod Parts
mod CopiedSectors
