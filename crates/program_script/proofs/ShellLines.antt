-- The lines that are read beside the commands are those that the words spell.
use Rattle.std.specs.Prelude.{codes, IfSome}
use Rattle.std.proofs.Common.{◌≡◌, ◌<◌, ℕ, eqb, List, [], ◌∷◌, length, Option, Some, None, refl, sym, ap, subst, ◌∙◌, arith}
use Rattle.std.specs.Fmt.{decimal}
use Rattle.std.specs.Option.{option_map}
use Rattle.std.proofs.lemmas.List.Splits.{length-slice_split}
use Rattle.program_script.specs.declared.command.Command.{Command}
use Rattle.program_script.specs.declared.scan.Scan.{Scan}
use Rattle.program_script.specs.declared.shell_line.ShellLine.{ShellLine}
use Rattle.program_script.specs.declared.shell_line.ShellLine.TheVariants as shell
use Rattle.program_script.specs.Grammar.{IsByteText, IsLineOf, Spell, parted_by, words}
use Rattle.program_script.specs.Reading.{command_at, first_four, first_two, name_at, only, only_txn_at, store_command_at, text_at, txn_at, ◌>>=◌}
use Rattle.program_script.specs.ReadingScans.{keys_at}
use Rattle.program_script.specs.ReadingShell.{backup_at, bare_at, delete_key_at, shell_at, update_key_at}
use Rattle.program_script.specs.Shell.{IsShellLineOf, SpellShell}
use Rattle.program_script.proofs.Commands.{command_again, four_take, only_takes, only_txn_takes, spelled_so, two_take, txn_again, txn_takes}
use Rattle.program_script.proofs.Scanning.{scan_again, scan_takes}
use Rattle.program_script.proofs.Steps.{bind_some, by_name, mapped, some_is}
use Rattle.program_script.proofs.Texts.{name_again, name_takes, text_again, text_takes}

-- ---- a line without further words

bare_with : (line : ShellLine) (parts : List (List ℕ)) → 0 < length parts → None ≡ bare_at line parts
bare_with line [] h = absurd (omega arith)
bare_with line (part ∷ more) h = refl

pub not_bare : (line : ShellLine) (s : ℕ) (rest : List ℕ) → None ≡ bare_at line (parted_by s rest)
not_bare line s rest = bare_with line (parted_by s rest) (omega (arith, length-slice_split (λ b. eqb b s) rest))

bare_takes : (verb : List ℕ) (args : List (List ℕ)) (line l : ShellLine) → SpellShell (verb ∷ []) line → bare_at line args ≡ Some l → SpellShell (verb ∷ args) l
bare_takes verb [] line l spelled e = subst (SpellShell (verb ∷ [])) (some_is line l e) spelled
bare_takes verb (word ∷ more) line l spelled e = absurd cc

-- ---- rows by their keys

delete_key_takes : (verb : List ℕ) (args : List (List ℕ)) (l : ShellLine) → verb ≡ codes "delete-key" → delete_key_at args ≡ Some l
    → SpellShell (verb ∷ args) l
unfolding delete_key_at
delete_key_takes verb args l is e =
    let two = bind_some (first_two args) (λ two. txn_at two.0 >>= λ txn. text_at two.1 >>= λ key. Some (shell.DeleteKey txn key)) l e in
    let words = two.0 in
    let txn = bind_some (txn_at words.0) (λ txn. text_at words.1 >>= λ key. Some (shell.DeleteKey txn key)) l two.2 in
    let key = bind_some (text_at words.1) (λ key. Some (shell.DeleteKey txn.0 key)) l txn.2 in
    let number = txn_takes words.0 txn.0 txn.1 in
    subst (SpellShell (verb ∷ args)) (some_is (shell.DeleteKey txn.0 key.0) l key.2) (
      words.1,
      spelled_so verb (codes "delete-key") args (decimal txn.0 ∷ words.1 ∷ []) is (two_take args words two.1
          ∙ ap (λ (w : List ℕ). w ∷ words.1 ∷ []) number.0),
      number.1,
      text_takes words.1 key.0 key.1,
    )

update_key_takes : (verb : List ℕ) (args : List (List ℕ)) (l : ShellLine) → verb ≡ codes "update-key" → update_key_at args ≡ Some l
    → SpellShell (verb ∷ args) l
unfolding update_key_at
update_key_takes verb args l is e =
    let four = bind_some (first_four args) (λ four. txn_at four.0 >>= λ txn. text_at four.1 >>= λ old. text_at four.2 >>= λ key. text_at four.3 >>= λ body.
    Some (shell.UpdateKey txn old key body)) l e in
    let words = four.0 in
    let txn = bind_some (txn_at words.0) (λ txn. text_at words.1 >>= λ old. text_at words.2 >>= λ key. text_at words.3 >>= λ body.
    Some (shell.UpdateKey txn old key body)) l four.2 in
    let old = bind_some (text_at words.1) (λ old. text_at words.2 >>= λ key. text_at words.3 >>= λ body. Some (shell.UpdateKey txn.0 old key body)) l txn.2 in
    let key = bind_some (text_at words.2) (λ key. text_at words.3 >>= λ body. Some (shell.UpdateKey txn.0 old.0 key body)) l old.2 in
    let body = bind_some (text_at words.3) (λ body. Some (shell.UpdateKey txn.0 old.0 key.0 body)) l key.2 in
    let number = txn_takes words.0 txn.0 txn.1 in
    subst (SpellShell (verb ∷ args)) (some_is (shell.UpdateKey txn.0 old.0 key.0 body.0) l body.2) (
      words.1,
      words.2,
      words.3,
      spelled_so verb (codes "update-key") args (decimal txn.0 ∷ words.1 ∷ words.2 ∷ words.3 ∷ []) is (four_take args words four.1
          ∙ ap (λ (w : List ℕ). w ∷ words.1 ∷ words.2 ∷ words.3 ∷ []) number.0),
      number.1,
      text_takes words.1 old.0 old.1,
      text_takes words.2 key.0 key.1,
      text_takes words.3 body.0 body.1,
    )

-- ---- whole lines

abbrev one_word : List ℕ → List (List ℕ)
one_word w = w ∷ []

scan_line : (verb : List ℕ) (args : List (List ℕ)) (l : ShellLine) → verb ≡ codes "scan" → option_map shell.Scan (keys_at args) ≡ Some l
    → SpellShell (verb ∷ args) l
scan_line verb args l is e =
    let scan = mapped shell.Scan (keys_at args) l e in
    subst (SpellShell (verb ∷ args)) scan.2 (scan_takes verb args scan.0 is scan.1)

commit_line : (verb : List ℕ) (args : List (List ℕ)) (l : ShellLine) → verb ≡ codes "commit!" → option_map shell.CommitNow (only_txn_at args) ≡ Some l
    → SpellShell (verb ∷ args) l
commit_line verb args l is e =
    let txn = mapped shell.CommitNow (only_txn_at args) l e in
    let number = only_txn_takes args txn.0 txn.1 in
    subst (SpellShell (verb ∷ args)) txn.2 (spelled_so verb (codes "commit!") args (decimal txn.0 ∷ []) is number.0, number.1)

backup_line : (verb : List ℕ) (args : List (List ℕ)) (l : ShellLine) → verb ≡ codes "backup" → backup_at args ≡ Some l → SpellShell (verb ∷ args) l
unfolding backup_at
backup_line verb args l is e =
    let word = bind_some (only args) (λ word. name_at word >>= λ file. Some (shell.Backup file)) l e in
    let file = bind_some (name_at word.0) (λ file. Some (shell.Backup file)) l word.2 in
    let name = name_takes word.0 file.0 file.1 in
    subst (SpellShell (verb ∷ args)) (some_is (shell.Backup file.0) l file.2)
    (spelled_so verb (codes "backup") args (file.0 ∷ []) is (only_takes args word.0 word.1 ∙ ap one_word name.0), name.1)

shell_takes : (words : List (List ℕ)) (l : ShellLine) → shell_at words ≡ Some l → SpellShell words l
unfolding shell_at
shell_takes [] l e = absurd cc
shell_takes (verb ∷ args) l e =
    by_name verb (codes "scan") (scan_line verb args l)
    (by_name verb (codes "delete-key") (delete_key_takes verb args l)
    (by_name verb (codes "update-key") (update_key_takes verb args l)
    (by_name verb (codes "commit!") (commit_line verb args l)
    (by_name verb (codes "backup") (backup_line verb args l)
    (by_name verb (codes "help") (λ is h. bare_takes verb args shell.Help l (ap one_word is) h)
    (by_name verb (codes "quit") (λ is h. bare_takes verb args shell.Quit l (ap one_word is) h) (λ h. absurd cc)))))))
    e

shell_again : (words : List (List ℕ)) (l : ShellLine) → SpellShell words l → shell_at words ≡ Some l
unfolding shell_at delete_key_at update_key_at only_txn_at backup_at
shell_again words (shell.Scan scan) h =
    let s = scan_again words scan h in
    ap shell_at s.1 ∙ ap (λ (o : Option Scan). option_map shell.Scan o) s.2
shell_again words (shell.DeleteKey txn key) h = ap shell_at h.1 ∙ rw (txn_again txn h.2, text_again h.0 key h.3) refl
shell_again words (shell.UpdateKey txn old key body) h = ap shell_at h.3
    ∙ rw (txn_again txn h.4, text_again h.0 old h.5, text_again h.1 key h.6, text_again h.2 body h.7) refl
shell_again words (shell.CommitNow txn) h = ap shell_at h.0 ∙ rw (txn_again txn h.1) refl
shell_again words (shell.Backup file) h = ap shell_at h.0 ∙ rw (name_again file h.1) refl
shell_again words shell.Help h = ap shell_at h
shell_again words shell.Quit h = ap shell_at h

pub spelled_by : (line : List ℕ) (found : Option ShellLine) → found ≡ shell_at (words line) → IfSome found (IsShellLineOf line)
spelled_by line (Some l) is = shell_takes (words line) l (sym is)
spelled_by line None is = tt

pub none_spelled : (line : List ℕ) (found : Option ShellLine) → found ≡ shell_at (words line) → found ≡ None → (l : ShellLine) → ¬ IsShellLineOf line l
none_spelled line found is none l h =
    let again = shell_again (words line) l h in
    let bad = sym none ∙ is ∙ again in
    cc

pub same_shell_line : (line : List ℕ) (a b : ShellLine) → IsShellLineOf line a → IsShellLineOf line b → a ≡ b
same_shell_line line a b p q = some_is a b (sym (shell_again (words line) a p) ∙ shell_again (words line) b q)

-- ---- none of them is a command

is_no_command : (words : List (List ℕ)) (l : ShellLine) → SpellShell words l → command_at words ≡ None
unfolding command_at store_command_at
is_no_command words (shell.Scan scan) h = ap command_at h.3
is_no_command words (shell.DeleteKey txn key) h = ap command_at h.1
is_no_command words (shell.UpdateKey txn old key body) h = ap command_at h.3
is_no_command words (shell.CommitNow txn) h = ap command_at h.0
is_no_command words (shell.Backup file) h = ap command_at h.0
is_no_command words shell.Help h = ap command_at h
is_no_command words shell.Quit h = ap command_at h

pub no_command : (line : List ℕ) (l : ShellLine) (command : Command) → IsShellLineOf line l → ¬ IsLineOf line command
no_command line l command h is =
    let again = command_again (words line) command is in
    let none = is_no_command (words line) l h in
    let bad = sym none ∙ again in
    cc

-- ---- a single word

pub given_by : (word : List ℕ) (found : Option (List ℕ)) → found ≡ text_at word → IfSome found (IsByteText word)
given_by word (Some bytes) is = text_takes word bytes (sym is)
given_by word None is = tt

pub none_given : (word : List ℕ) (found : Option (List ℕ)) → found ≡ text_at word → found ≡ None → (bytes : List ℕ) → ¬ IsByteText word bytes
none_given word found is none bytes h =
    let again = text_again word bytes h in
    let bad = sym none ∙ is ∙ again in
    cc
