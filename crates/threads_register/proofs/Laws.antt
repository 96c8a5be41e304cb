-- What the crates above may cite of this one.
pub use Rattle.threads_register.proofs.Commits.{begins as commits_begin, commits as commits_more, stays as commits_stay}
pub use Rattle.threads_register.proofs.Numbers.{commit as commit_numbered, counted as commit_counted, create as creation_numbered, drop as dropping_numbered}
pub use Rattle.threads_register.proofs.Numbers.{commit_record, create_record, drop_record, others as others_counted}
pub use Rattle.threads_register.proofs.Lookups.{get_set, get_set_other, get_within, number_is, set_length, some_is, with_own}
pub use Rattle.threads_register.proofs.Served.{opens as opened_agreed, pushes as pushed_agreed}
pub use Rattle.threads_register.proofs.Steps.{begin as begin_agreed, commit as commit_agreed, create as create_agreed, delete as delete_agreed}
pub use Rattle.threads_register.proofs.Steps.{drop as drop_agreed}
pub use Rattle.threads_register.proofs.Steps.{end as end_agreed, insert as insert_agreed, next as next_agreed, others as others_agreed}
pub use Rattle.threads_register.proofs.Steps.{refusals as refused_agreed}
pub use Rattle.threads_register.proofs.Steps.{undo as undo_agreed, update as update_agreed}
pub use Rattle.threads_register.proofs.Reading.{delete_reads, insert_reads, step_reads, update_reads}
pub use Rattle.threads_register.proofs.Rows.{written_last}
pub use Rattle.threads_register.proofs.Sights.{left_here as rows_left, ready as ready_seen, rows_here as rows_seen, tables as tables_shown}
pub use Rattle.threads_register.proofs.Sights.{unfinished_here as unfinished_seen}
