-- Reading a line that stands beside the commands from left to right.
use Rattle.std.specs.Prelude.{[], codes, if◌then◌else◌, List, None, Option, Some, ℕ, ◌∷◌}
use Rattle.std.specs.Option.{option_map}
use Rattle.std.specs.Str.{bytes_eq}
use Rattle.program_script.specs.Reading.{first_four, first_two, name_at, only, only_txn_at, text_at, txn_at, ◌>>=◌}
use Rattle.program_script.specs.ReadingScans.{keys_at}
use Rattle.program_script.specs.declared.shell_line.ShellLine.{ShellLine}
use Rattle.program_script.specs.declared.shell_line.ShellLine.TheVariants as shell

-- a line that has no further words
abbrev pub bare_at : ShellLine → List (List ℕ) → Option ShellLine
bare_at line [] = Some line
bare_at line (word ∷ rest) = None

unfoldable pub delete_key_at : List (List ℕ) → Option ShellLine
delete_key_at args = do
  two ← first_two args
  txn ← txn_at two.0
  key ← text_at two.1
  Some (shell.DeleteKey txn key)

unfoldable pub update_key_at : List (List ℕ) → Option ShellLine
update_key_at args = do
  four ← first_four args
  txn ← txn_at four.0
  old ← text_at four.1
  key ← text_at four.2
  body ← text_at four.3
  Some (shell.UpdateKey txn old key body)

unfoldable pub backup_at : List (List ℕ) → Option ShellLine
backup_at args = do
  word ← only args
  file ← name_at word
  Some (shell.Backup file)

unfoldable pub shell_at : List (List ℕ) → Option ShellLine
shell_at [] = None
shell_at (verb ∷ args) =
    if bytes_eq verb (codes "scan") then option_map shell.Scan (keys_at args)
    else if bytes_eq verb (codes "delete-key") then delete_key_at args
    else if bytes_eq verb (codes "update-key") then update_key_at args
    else if bytes_eq verb (codes "commit!") then option_map shell.CommitNow (only_txn_at args)
    else if bytes_eq verb (codes "backup") then backup_at args
    else if bytes_eq verb (codes "help") then bare_at shell.Help args
    else if bytes_eq verb (codes "quit") then bare_at shell.Quit args
    else None
