-- What a parse reads of an option that takes a number.
use Rattle.std.proofs.Common.{◌&&◌, ◌==◌, ◌≡◌, ◌⊎◌, ◌∙◌, ◌<◌, ◌≤◌, ◌^◌, ℕ, Bool, true, false, List, [], ◌∷◌, Option, Some, None, Result, Ok, map, length, codes}
use Rattle.std.proofs.Common.{IfSome, unwrap_or, ap, lit<, lit≤, refl, sym, subst, inl, inr, arith}
use Rattle.std.specs.Borrow.{Bor}
use Rattle.std.specs.List.{All, slice_index_or}
use Rattle.std.specs.Str.{bytes_eq}
use Rattle.std.specs.Str.Parse.{ExplainsUnsignedError, HasUnsignedDigitsIfOk, ParsesUnsigned}
use Rattle.std.specs.declared.num.ParseIntError.{ParseIntError}
use Rattle.std.proofs.lemmas.Bool.{cases_lt, ne_eqb}
use Rattle.std.proofs.lemmas.List.{get_or-map, length-map}
use Rattle.std.proofs.lemmas.List.Elements.{All-cons, All-get_or, All-nil}
use Rattle.std.proofs.lemmas.Slice.Eq.{bytes_eq-Decides}
use Rattle.clap.specs.Words.{Accepts, App, IsParsedFrom, ReadsOne, Rule, SameRules, Text, app_of, args_of, found_of, groups_of, matched_of, one_of, one_text}
use Rattle.clap.specs.Words.{parser_of, rows_of, rule_of, without_minus}
use Rattle.clap.specs.Facts.{Entry, EntryPasses, HasReading, PassesArg, parser_of_value}
use Rattle.clap.specs.Built.{IsAuto}
use Rattle.clap.specs.Walk.{is_empty}
use Rattle.clap.specs.Values.{read_as, reading_of}
use Rattle.clap.specs.declared.builder.arg.Arg.{Arg}
use Rattle.clap.specs.declared.builder.arg_group.ArgGroup.{ArgGroup}
use Rattle.clap.specs.declared.builder.command.Command.{Command}
use Rattle.clap.specs.declared.builder.value_parser.Reading.{Reading}
use Rattle.clap.specs.declared.builder.value_parser.ValueParser.{ValueParser}
use Rattle.clap.specs.declared.parser.matches.ArgMatches.{ArgMatches}
use Rattle.clap.specs.declared.parser.matches.Found.{Found}
use Rattle.clap.specs.declared.parser.matches.MatchedArg.{MatchedArg}
use Rattle.clap.proofs.CallerLemmas.{entry_by_id}
use Rattle.clap.proofs.CallerReads.{signed_reads}
use Rattle.clap.proofs.SimpleLemmas.{plain_fields}
use Rattle.clap.proofs.WalkLemmas.{one_text-rows}
use Rattle.record_values.specs.declared.geometry.TheConstants.{ENTRIES_MAX, ENTRIES_MIN, LOG_SLOTS_MAX, LOG_SLOTS_MIN, PAGES_MAX}
use Rattle.program_values.specs.Arguments.{with_defaults}
use Rattle.program_values.specs.declared.given.Options.{Options}
use Rattle.program_arguments.specs.CommandLine.{AreInRange, command_line, fate_in, number_in, numbers, options_in}
use Rattle.program_arguments.specs.declared.TheConstants.{SECTORS_MAX}

-- an argument of this name takes what this parser takes
abbrev pub Takes : Text → ValueParser → Rule → Type 0
Takes name q rule = bytes_eq rule.id name ≡ true → rule.parser ≡ Some q

-- so do all arguments of this name that a built command has, unless it is one that building adds
taken : (old : Command) (m : ArgMatches) (p : IsParsedFrom old m) (name : Text) (q : ValueParser)
    → All (Takes name q) (map rule_of (args_of old)) → (name ≡ codes "help" → ⊥) → (name ≡ codes "version" → ⊥)
    → (j : ℕ) (x : Arg) → j < length (args_of p.built) → slice_index_or (args_of p.built) j x ≡ x → bytes_eq x.id.now name ≡ true
    → parser_of x ≡ q
taken old m p name q takes no_help no_version j x inside at same =
    elim (cases_lt j (length (args_of old))) [
      | inl under ↦
          let a = slice_index_or (args_of old) j x in
          let kept = subst (λ (w : Arg). SameRules a w) at (p.from.kept j x under).1 in
          let a_same : bytes_eq a.id.now name ≡ true = rw (← kept.id) same in
          let rule : slice_index_or (map rule_of (args_of old)) j (rule_of x) ≡ rule_of a = get_or-map rule_of (args_of old) j x (rule_of x) under in
          let a_takes = subst (Takes name q) rule (takes j (rule_of x) (simp length-map under)) in
          ap parser_of_value (kept.parser q (a_takes a_same))
      | inr over ↦
          let x_name : x.id.now ≡ name = (bytes_eq-Decides x.id.now name).0 same in
          let added = subst IsAuto at (p.from.extra j x over inside) in
          absurd (elim added [ inl h ↦ no_help (sym x_name ∙ h) | inr h ↦ no_version (sym x_name ∙ h) ])
    ]

-- what there is of a name: no text, or one that its parser takes
abbrev pub FindsText : Found → Text → ValueParser → Type 0
FindsText f name q =
    (one_text f name ≡ None) ⊎ ((ignore_case : Bool) × (text : Text) × (one_text f name ≡ Some (read_as (reading_of q) text)) × Accepts ignore_case q text)

-- each argument of this name that the command has takes what this parser takes
abbrev pub HasOneParser : Command → Text → ValueParser → Type 0
HasOneParser c name q =
    (j : ℕ) (x : Arg) → j < length (args_of c) → slice_index_or (args_of c) j x ≡ x → bytes_eq x.id.now name ≡ true → parser_of x ≡ q

read_so : (c : Command) (name : Text) (q : ValueParser) → HasOneParser c name q → (how : Reading) → HasReading c name how → how ≡ reading_of q
read_so c name q takes how any = sym any.4.1 ∙ ap reading_of (takes any.0 any.1 any.2 any.3 any.4.0)

accepted : (c : Command) (name : Text) (q : ValueParser) → HasOneParser c name q → (text : Text) → PassesArg c name text
    → (ignore_case : Bool) × Accepts ignore_case q text
accepted c name q takes text any =
    (any.1.ignore_case, subst (λ (parser : ValueParser). Accepts any.1.ignore_case parser text) (takes any.0 any.1 any.2 any.3 any.4.0) any.4.1)

no_group : (c : Command) (name : Text) (e : Entry) → groups_of c ≡ [] → (name ≡ [] → ⊥) → e.0.now ≡ name → EntryPasses c e → e.1.is_group ≡ true → ⊥
no_group c name e no_groups named key passes g = elim (passes.3 g) [
  | inl empty ↦ named (sym key ∙ empty)
  | inr lots ↦
      let bad : 0 < 0 = subst (λ (groups : List ArgGroup). 0 < length groups) no_groups lots in
      absurd (omega arith)
]

at_entry : (c : Command) (f : Found) (name : Text) (q : ValueParser) → HasOneParser c name q
    → (a : MatchedArg) → matched_of f name ≡ Some a → All (λ v. PassesArg c name v.now) a.vals.items → HasReading c name a.reading
    → (values : List (Bor Text)) → a.vals.items ≡ values → FindsText f name q
at_entry c f name q takes a found each how [] none = inl (rw (found, none) refl)
at_entry c f name q takes a found each how (v ∷ vs) some =
    let all = subst (All (λ (v : Bor Text). PassesArg c name v.now)) some each in
    let pass = accepted c name q takes v.now (All-get_or (λ (v : Bor Text). PassesArg c name v.now) (v ∷ vs) 0 v (omega arith) all) in
    let text : one_text f name ≡ Some (read_as (reading_of q) v.now) = rw (found, some, read_so c name q takes a.reading how) refl in
    inr (pass.0, v.now, text, pass.1)

of_entry : (c : Command) (f : Found) (name : Text) (q : ValueParser) → groups_of c ≡ [] → (name ≡ [] → ⊥) → HasOneParser c name q
    → (a : MatchedArg) (e : Entry) → matched_of f name ≡ Some a → e.1 ≡ a → e.0.now ≡ name → EntryPasses c e → FindsText f name q
of_entry c f name q no_groups named takes a e found same key passes =
    let apart = no_group c name e no_groups named key passes in
    let each : All (λ v. PassesArg c name v.now) e.1.vals.items = elim passes.0 [
      | inl g ↦ absurd (apart g)
      | inr all ↦ subst (λ (n : Text). All (λ v. PassesArg c n v.now) e.1.vals.items) key all
    ] in
    let how : HasReading c name e.1.reading = elim passes.4 [
      | inl g ↦ absurd (apart g)
      | inr reads ↦ subst (λ (n : Text). HasReading c n e.1.reading) key reads
    ] in
    at_entry c f name q takes a found (subst (λ (x : MatchedArg). All (λ v. PassesArg c name v.now) x.vals.items) same each)
    (subst (λ (x : MatchedArg). HasReading c name x.reading) same how) a.vals.items refl

-- what holds of each of these
abbrev pub Each : {X : Type 0} → (X → Type 0) → List X → Type 0
Each P [] = Unit {0}
Each P (x ∷ xs) = P x × Each P xs

pub each_all : {X : Type 0} (P : X → Type 0) (xs : List X) → Each P xs → All P xs
each_all P [] e = All-nil P
each_all P (x ∷ xs) e = All-cons P x xs e.0 (each_all P xs e.1)

both : (a b : Bool) → (a && b) ≡ true → (a ≡ true) × (b ≡ true)
both true b e = (refl, e)
both false b e = cc

none_in : {X : Type 0} (xs : List X) → is_empty xs ≡ true → xs ≡ []
none_in [] e = refl
none_in (x ∷ xs) e =
    let some : (length (x ∷ xs) == 0) ≡ false = ne_eqb _ _ (λ zero. absurd (omega arith)) in
    cc

-- an argument that is simple belongs to no group
in_no_group : (a : Arg) → (rule_of a).is_simple ≡ true → a.groups.items ≡ []
in_no_group a e = none_in a.groups.items (both _ _ (both _ _ (both _ _ e).1).1).0

are_simple : (names : Bor (List (Bor Text))) → All (λ (rule : Rule). rule.is_simple ≡ true) (command_line names).top.rules
are_simple names = each_all (λ (rule : Rule). rule.is_simple ≡ true) (command_line names).top.rules
    (refl, (refl, (refl, (refl, (refl, (refl, tt))))))

-- so no group comes of building the command
no_groups_of : (old : Command) (m : ArgMatches) (p : IsParsedFrom old m) (names : Bor (List (Bor Text))) → app_of old ≡ command_line names
    → groups_of old ≡ [] → groups_of p.built ≡ []
no_groups_of old m p names is none =
    let rules = subst (All (λ (rule : Rule). rule.is_simple ≡ true)) (sym (ap (λ (a : App). a.top.rules) is)) (are_simple names) in
    let grouped : All (λ (a : Arg). a.groups.items ≡ []) (args_of old) = λ k d inside.
    in_no_group (slice_index_or (args_of old) k d)
    (subst (λ (rule : Rule). rule.is_simple ≡ true) (get_or-map rule_of (args_of old) k d (rule_of d) inside) (rules k (rule_of d) (simp length-map inside))) in
    (p.from.same_groups grouped).1 ∙ none

-- what a parse finds of an option
pub found_text : (old : Command) (m : ArgMatches) (p : IsParsedFrom old m) (names : Bor (List (Bor Text))) → app_of old ≡ command_line names
    → (name : Text) (q : ValueParser) → Each (Takes name q) (command_line names).top.rules
    → (name ≡ [] → ⊥) → (name ≡ codes "help" → ⊥) → (name ≡ codes "version" → ⊥) → FindsText (found_of m) name q
found_text old m p names is name q takes named no_help no_version =
    let plain = plain_fields old (ap (λ (a : App). a.top.is_plain) is) in
    let parsed = p.parsed (p.from.globals ∙ plain.globals) in
    let given = subst (All (Takes name q)) (sym (ap (λ (a : App). a.top.rules) is)) (each_all (Takes name q) (command_line names).top.rules takes) in
    go (taken old m p name q given no_help no_version) (no_groups_of old m p names is plain.groups) parsed.values (matched_of (found_of m) name) refl
  where
    go : HasOneParser p.built name q → groups_of p.built ≡ [] → All (EntryPasses p.built) (found_of m).entries.items
        → (o : Option MatchedArg) → matched_of (found_of m) name ≡ o → FindsText (found_of m) name q
    go takes no_groups each None e = inl (rw e refl)
    go takes no_groups each (Some a) e =
        let got = entry_by_id (EntryPasses p.built) (found_of m).entries.items name a each e in
        of_entry p.built (found_of m) name q no_groups named takes a got.0 e got.1 ((bytes_eq-Decides got.0.0.now name).0 got.2) got.3

-- and what `get_one` reads of it, where it takes numbers
pub read_number : (E : Type 0) (G : Text → Result ℕ E → Type 0) (f : Found) (name : Text) (low high : ℕ) (r : Option ℕ)
    → FindsText f name (numbers low high) → ((u : Text) (x : Result ℕ E) → G u x → ParsesUnsigned 32 10 u x) → high < 2 ^ 32
    → (one_text f name ≡ None → r ≡ None) → ((t : Text) → one_text f name ≡ Some t → ReadsOne G t r)
    → (r ≡ number_in name (rows_of f)) × IfSome r (λ n. (low ≤ n) × (n ≤ high))
read_number E G f name low high r (inl none) only fits nothing value =
    let found : one_of name (rows_of f) ≡ None = sym (one_text-rows f name) ∙ none in
    (rw (found, nothing none) refl, rw (nothing none) tt)
read_number E G f name low high r (inr some) only fits nothing value =
    let text = without_minus some.1 in
    let found : one_of name (rows_of f) ≡ Some text = sym (one_text-rows f name) ∙ some.2 in
    let got = signed_reads E G 32 low high some.1 r (value text some.2) only fits some.3 in
    let read : ReadsOne G text (Some got.0) = subst (ReadsOne G text) got.1 (value text some.2) in
    let parsed = only text (Ok got.0) read in
    (rw (found, got.1) (ap (λ (n : ℕ). Some n) parsed.1), rw got.1 (got.2, got.3))

-- what `get_one` ensures of a name
abbrev pub Gets : {E : Type 0} → (Text → Result ℕ E → Type 0) → Found → Text → Option ℕ → Type 0
Gets G f name r = (one_text f name ≡ None → r ≡ None) × ((text : Text) → one_text f name ≡ Some text → ReadsOne G text r)

differ : (a b : Text) → bytes_eq a b ≡ false → a ≡ b → ⊥
differ a b apart same =
    let equal : bytes_eq b b ≡ true = (bytes_eq-Decides b b).1 refl in
    let not_equal : bytes_eq b b ≡ false = subst (λ (x : Text). bytes_eq x b ≡ false) same apart in
    cc

other : {X : Type 0} → false ≡ true → X
other e = cc

within : (r : Option ℕ) (low high default : ℕ) → IfSome r (λ n. (low ≤ n) × (n ≤ high)) → low ≤ default → default ≤ high
    → (low ≤ unwrap_or r default) × (unwrap_or r default ≤ high)
within None low high default h least most = (least, most)
within (Some n) low high default h least most = h

at_most : (r : Option ℕ) (low high : ℕ) → IfSome r (λ n. (low ≤ n) × (n ≤ high)) → IfSome r (λ n. n ≤ high)
at_most None low high h = tt
at_most (Some n) low high h = h.1

at_least : (r : Option ℕ) (low high : ℕ) → IfSome r (λ n. (low ≤ n) × (n ≤ high)) → IfSome r (λ n. low ≤ n)
at_least None low high h = tt
at_least (Some n) low high h = h.0

-- what `u32` reads of a text
abbrev pub ReadsU32 : Text → Result ℕ ParseIntError → Type 0
ReadsU32 text r = ParsesUnsigned 32 10 text r × ExplainsUnsignedError 10 text r × HasUnsignedDigitsIfOk text r

module _ (old : Command) (m : ArgMatches) (p : IsParsedFrom old m) (names : Bor (List (Bor Text))) (is : app_of old ≡ command_line names) where
  got : (name : Text) (low high : ℕ) (r : Option ℕ) → Each (Takes name (numbers low high)) (command_line names).top.rules
      → bytes_eq name [] ≡ false → bytes_eq name (codes "help") ≡ false → bytes_eq name (codes "version") ≡ false → high < 2 ^ 32
      → Gets ReadsU32 (found_of m) name r
      → (r ≡ number_in name (rows_of (found_of m))) × IfSome r (λ n. (low ≤ n) × (n ≤ high))
  got name low high r takes named no_help no_version fits gets =
      read_number ParseIntError ReadsU32 (found_of m) name low high r
      (found_text old m p names is name (numbers low high) takes (differ _ _ named) (differ _ _ no_help) (differ _ _ no_version))
      (λ u x gives. gives.0) fits gets.0 gets.1

  -- what a parse gives of all the options
  pub options_found : (given : Options) → Gets ReadsU32 (found_of m) (codes "pages") given.pages → Gets ReadsU32 (found_of m) (codes "entries") given.entries
      → Gets ReadsU32 (found_of m) (codes "slots") given.slots → Gets ReadsU32 (found_of m) (codes "sectors") given.sectors
      → Gets ReadsU32 (found_of m) (codes "stop") given.stop → given.fate ≡ fate_in (rows_of (found_of m))
      → (given ≡ options_in (rows_of (found_of m))) × AreInRange (with_defaults given)
  options_found given pages entries slots sectors stop fate =
      let a = got (codes "pages") 1 PAGES_MAX given.pages (λ e. refl, (other, (other, (other, (other, (other, tt)))))) refl refl refl (lit< tt) pages in
      let b = got (codes "entries") ENTRIES_MIN ENTRIES_MAX given.entries (other, (λ e. refl, (other, (other, (other, (other, tt)))))) refl refl refl
      (lit< tt) entries in
      let c = got (codes "slots") LOG_SLOTS_MIN LOG_SLOTS_MAX given.slots (other, (other, (λ e. refl, (other, (other, (other, tt)))))) refl refl refl
      (lit< tt) slots in
      let d = got (codes "sectors") 0 SECTORS_MAX given.sectors (other, (other, (other, (λ e. refl, (other, (other, tt)))))) refl refl refl (lit< tt) sectors in
      let e = got (codes "stop") 1 4294967295 given.stop (other, (other, (other, (other, (λ e. refl, (other, tt)))))) refl refl refl (lit< tt) stop in (
        λ i. record { pages = a.0 i; entries = b.0 i; slots = c.0 i; sectors = d.0 i; stop = e.0 i; fate = fate i },
        record {
          pages = within given.pages 1 PAGES_MAX 1 a.1 (lit≤ tt) (lit≤ tt);
          entries = within given.entries ENTRIES_MIN ENTRIES_MAX ENTRIES_MIN b.1 (lit≤ tt) (lit≤ tt);
          slots = within given.slots LOG_SLOTS_MIN LOG_SLOTS_MAX LOG_SLOTS_MIN c.1 (lit≤ tt) (lit≤ tt);
          sectors = at_most given.sectors 0 SECTORS_MAX d.1;
          stop = at_least given.stop 1 4294967295 e.1;
        },
      )
