use Rattle.std.proofs.Common.{rules}
use Rattle.nsf_index_c.proofs.Flags.{full}
use Rattle.nsf_index_c.proofs.handle.Handle.take.Goals as goal

pub into_box-requires : goal.into_box-requires
into_box-requires c = full c.replace-at.result.at.value c.replace-at.result.is_open c.replace-at.result.agrees (search rules)
