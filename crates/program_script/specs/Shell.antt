-- The lines that are served beside the commands of a script. None of them is a command.
use Rattle.std.specs.Prelude.{[], codes, List, ℕ, ◌∷◌, ◌≡◌}
use Rattle.std.specs.Fmt.{decimal}
use Rattle.program_script.specs.Grammar.{IsByteText, IsName, IsTxn, words}
use Rattle.program_script.specs.Scans.{SpellScan}
use Rattle.program_script.specs.declared.shell_line.ShellLine.{ShellLine}
use Rattle.program_script.specs.declared.shell_line.ShellLine.TheVariants as shell

-- the words of a line spell this
abbrev pub SpellShell : List (List ℕ) → ShellLine → Type 0
SpellShell words (shell.Scan scan) = SpellScan words scan
SpellShell words (shell.DeleteKey txn key) = (k : List ℕ) × (words ≡ codes "delete-key" ∷ decimal txn ∷ k ∷ [])
    × IsTxn txn × IsByteText k key
SpellShell words (shell.UpdateKey txn old key body) = (o k b : List ℕ)
    × (words ≡ codes "update-key" ∷ decimal txn ∷ o ∷ k ∷ b ∷ []) × IsTxn txn × IsByteText o old × IsByteText k key
    × IsByteText b body
SpellShell words (shell.CommitNow txn) = (words ≡ codes "commit!" ∷ decimal txn ∷ []) × IsTxn txn
SpellShell words (shell.Backup file) = (words ≡ codes "backup" ∷ file ∷ []) × IsName file
SpellShell words shell.Help = words ≡ codes "help" ∷ []
SpellShell words shell.Quit = words ≡ codes "quit" ∷ []

-- a line is this: its words, parted by single spaces, spell it
abbrev pub IsShellLineOf : List ℕ → ShellLine → Type 0
IsShellLineOf line shell_line = SpellShell (words line) shell_line
