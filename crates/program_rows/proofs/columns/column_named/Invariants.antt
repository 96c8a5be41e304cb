use Rattle.std.proofs.Common.{Some, ℕ, ◌-◌, ◌<◌, ◌≡◌}
use Rattle.csv.specs.Records.{field_at, field_count, fields_of}
use Rattle.program_rows.proofs.columns.column_named.Given as goal

abbrev pub invariant-loop-field : goal.invariant-loop-field
invariant-loop-field l = (m : ℕ) → m < l.column → field_at (fields_of l.header) m ≡ Some l.name → ⊥

abbrev pub decreases-loop-field : goal.decreases-loop-field
decreases-loop-field l = field_count l.header - l.column
