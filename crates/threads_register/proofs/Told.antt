-- The commits and turns of a history, and those of the sessions.
use Rattle.std.proofs.Common.{◌≡◌, ℕ, ◌+◌, ◌-◌, ◌<◌, ◌≤◌, Bool, true, false, cond, List, [], ◌∷◌, ◌++◌, filter, length, take, append-nil, append_assoc, inl}
use Rattle.std.proofs.Common.{inr, refl, sym, ap, ◌∙◌, arith}
use Rattle.std.proofs.lemmas.Bool.{cases_lt, le-leb, lt-leb}
use Rattle.std.proofs.lemmas.List.{length-take-le, take_all}
use Rattle.std.specs.Prelude.{nat_le}
use Rattle.records.specs.RecordValue.{RecordValue}
use Rattle.model.specs.Given.{given_after, IsBeginning}
use Rattle.model.specs.History.{Checkpointed, Committed, Completed, Created, Deed, Dropped, Item, table_after, table_with, up_to}
use Rattle.model.specs.Table.{applied, Table}
use Rattle.model.specs.declared.write.Write.{Write}
use Rattle.core_model.specs.Histories.{CanOpen, no_writes, Opened}
use Rattle.core_model.specs.Events.{Event, Reply}
use Rattle.core_model.specs.Served.{asked_after, asked_over, items_at, items_of}
use Rattle.core_laws.proofs.Laws.{holds, numbered, recovers}
use Rattle.core_laws.specs.Calls.{HasReplied}
use Rattle.core_parts.specs.View.{CoreValue}
use Rattle.threads_sessions.specs.Values.{CommitValue}
use Rattle.threads_sessions.specs.declared.turn.Turn.{Turn}
use Rattle.threads_register.specs.History.{AreRisingTo, AreThose, commit_told, commits_told, commits_up_to, turn_told, turns_told, ShowsCommits, with_commits}
use Rattle.threads_register.specs.Register.{Commits}

-- ---- one call more

pub items_more : (writes : ℕ → List Write) (calls : List (Event × Reply)) (e : Event) (reply : Reply)
    → items_of writes (calls ++ (e, reply) ∷ []) ≡ items_of writes calls ++ items_at (asked_over writes calls) reply e
items_more writes [] e reply = append-nil (items_at writes reply e)
items_more writes (p ∷ calls) e reply =
    ap (λ l. items_at writes p.1 p.0 ++ l) (items_more (asked_after writes p.1 p.0) calls e reply)
    ∙ sym (append_assoc (items_at writes p.1 p.0) (items_of (asked_after writes p.1 p.0) calls)
    (items_at (asked_over (asked_after writes p.1 p.0) calls) reply e))

commits_append : (items later : List Item) → commits_told (items ++ later) ≡ commits_told items ++ commits_told later
commits_append [] later = refl
commits_append (item ∷ items) later = ap (λ l. commit_told item.number item.deed ++ l) (commits_append items later)
    ∙ sym (append_assoc (commit_told item.number item.deed) (commits_told items) (commits_told later))

turns_append : (items later : List Item) → turns_told (items ++ later) ≡ turns_told items ++ turns_told later
turns_append [] later = refl
turns_append (item ∷ items) later = ap (λ l. turn_told item.number item.deed ++ l) (turns_append items later)
    ∙ sym (append_assoc (turn_told item.number item.deed) (turns_told items) (turns_told later))

-- what a call adds
pub commits_more : (calls : List (Event × Reply)) (e : Event) (reply : Reply) (more : List (ℕ × List Write))
    → commits_told (items_at (asked_over no_writes calls) reply e) ≡ more
    → commits_told (items_of no_writes (calls ++ (e, reply) ∷ [])) ≡ commits_told (items_of no_writes calls) ++ more
commits_more calls e reply more is =
    ap commits_told (items_more no_writes calls e reply)
    ∙ (commits_append (items_of no_writes calls) (items_at (asked_over no_writes calls) reply e)
    ∙ ap (λ l. commits_told (items_of no_writes calls) ++ l) is)

pub turns_more : (calls : List (Event × Reply)) (e : Event) (reply : Reply) (more : List Turn)
    → turns_told (items_at (asked_over no_writes calls) reply e) ≡ more
    → turns_told (items_of no_writes (calls ++ (e, reply) ∷ [])) ≡ turns_told (items_of no_writes calls) ++ more
turns_more calls e reply more is =
    ap turns_told (items_more no_writes calls e reply)
    ∙ (turns_append (items_of no_writes calls) (items_at (asked_over no_writes calls) reply e) ∙ ap (λ l. turns_told (items_of no_writes calls) ++ l) is)

-- ---- the table of a history is that of its commits

abbrev pub over : Table → List (ℕ × List Write) → Table
over table [] = table
over table (told ∷ more) = over (applied table told.1) more

pub table_told : (table : Table) (items : List Item) → table_after table items ≡ over table (commits_told items)
table_told table [] = refl
table_told table (item ∷ items) = by item.deed (λ t. table_told t items)
  where
    by : (deed : Deed) → ((t : Table) → table_after t items ≡ over t (commits_told items))
        → table_after (table_with table deed) items ≡ over table (commit_told item.number deed ++ commits_told items)
    by (Committed writes) rest = rest (applied table writes)
    by Created rest = rest table
    by (Checkpointed pair) rest = rest table
    by Completed rest = rest table
    by Dropped rest = rest table

abbrev told_up_to : ℕ → List (ℕ × List Write) → List (ℕ × List Write)
told_up_to number told = filter (λ c. nat_le c.0 number) told

abbrev item_of : ℕ → Deed → Item
item_of n deed = record { number = n; deed = deed }

commits_up : (number : ℕ) (items : List Item) → commits_told (up_to number items) ≡ told_up_to number (commits_told items)
commits_up number [] = refl
commits_up number (item ∷ items) = by item.number item.deed (nat_le item.number number) refl (commits_up number items)
  where
    by : (n : ℕ) (deed : Deed) (b : Bool) → nat_le n number ≡ b → commits_told (up_to number items) ≡ told_up_to number (commits_told items)
        → commits_told (cond b (item_of n deed ∷ up_to number items) (up_to number items)) ≡ told_up_to number (commit_told n deed ++ commits_told items)
    by n (Committed writes) true e rest = ap (λ l. (n, writes) ∷ l) rest
        ∙ sym (ap (λ b. cond b ((n, writes) ∷ told_up_to number (commits_told items)) (told_up_to number (commits_told items))) e)
    by n (Committed writes) false e rest = rest
        ∙ sym (ap (λ b. cond b ((n, writes) ∷ told_up_to number (commits_told items)) (told_up_to number (commits_told items))) e)
    by n Created true e rest = rest
    by n Created false e rest = rest
    by n (Checkpointed pair) true e rest = rest
    by n (Checkpointed pair) false e rest = rest
    by n Completed true e rest = rest
    by n Completed false e rest = rest
    by n Dropped true e rest = rest
    by n Dropped false e rest = rest

-- ---- those of the sessions

pub those_table : (table : Table) (told : List (ℕ × List Write)) (cs : Commits) → AreThose table told cs → with_commits table cs ≡ over table told
those_table table [] [] h = refl
those_table table (t ∷ ts) (c ∷ cs) h = ap (λ m. with_commits m cs) h.1 ∙ those_table (applied table t.1) ts cs h.2
those_table table [] (c ∷ cs) h = absurd h
those_table table (t ∷ ts) [] h = absurd h

pub those_more : (table : Table) (told : List (ℕ × List Write)) (cs : Commits) → AreThose table told cs
    → (number : ℕ) (writes : List Write) (e : ℕ × CommitValue)
    → e.1.ticket.«record» ≡ number → applied (over table told) e.1.writes ≡ applied (over table told) writes
    → AreThose table (told ++ (number, writes) ∷ []) (cs ++ e ∷ [])
those_more table [] [] h number writes e is leaves = (is, leaves, tt)
those_more table (t ∷ ts) (c ∷ cs) h number writes e is leaves = (h.0, h.1, those_more (applied table t.1) ts cs h.2 number writes e is leaves)
those_more table [] (c ∷ cs) h number writes e is leaves = absurd h
those_more table (t ∷ ts) [] h number writes e is leaves = absurd h

pub rising_more : (from to : ℕ) (cs : Commits) (e : ℕ × CommitValue) (last : ℕ) → AreRisingTo from to cs → to < e.1.ticket.«record» → e.1.ticket.«record» ≤ last
    → AreRisingTo from last (cs ++ e ∷ [])
rising_more from to [] e last h above within = (omega (arith, h, above), within)
rising_more from to (c ∷ cs) e last h above within = (h.0, rising_more c.1.ticket.«record» to cs e last h.1 above within)

pub rising_on : (from to : ℕ) (cs : Commits) (last : ℕ) → AreRisingTo from to cs → to ≤ last → AreRisingTo from last cs
rising_on from to [] last h le = omega (arith, h, le)
rising_on from to (c ∷ cs) last h le = (h.0, rising_on c.1.ticket.«record» to cs last h.1 le)

rises : (from to : ℕ) (cs : Commits) → AreRisingTo from to cs → from ≤ to
rises from to [] h = h
rises from to (c ∷ cs) h = let later = rises c.1.ticket.«record» to cs h.1 in omega (arith, h.0, later)

all_up_to : (from to : ℕ) (cs : Commits) (number : ℕ) → AreRisingTo from to cs → to ≤ number → commits_up_to number cs ≡ cs
all_up_to from to [] number h le = refl
all_up_to from to (c ∷ cs) number h le =
    let later : c.1.ticket.«record» ≤ to = rises c.1.ticket.«record» to cs h.1 in
    ap (λ b. cond b (c ∷ commits_up_to number cs) (commits_up_to number cs)) (le-leb c.1.ticket.«record» number (omega (arith, later, le)))
    ∙ ap (λ (l : Commits). c ∷ l) (all_up_to c.1.ticket.«record» to cs number h.1 le)

none_up_to : (from to : ℕ) (cs : Commits) (number : ℕ) → AreRisingTo from to cs → number ≤ from → commits_up_to number cs ≡ []
none_up_to from to [] number h le = refl
none_up_to from to (c ∷ cs) number h le =
    ap (λ b. cond b (c ∷ commits_up_to number cs) (commits_up_to number cs)) (lt-leb c.1.ticket.«record» number (omega (arith, h.0, le)))
    ∙ none_up_to c.1.ticket.«record» to cs number h.1 (omega (arith, h.0, le))

none_told : (table : Table) (told : List (ℕ × List Write)) (cs : Commits) → AreThose table told cs → (from to number : ℕ) → AreRisingTo from to cs
    → number ≤ from → told_up_to number told ≡ []
none_told table [] [] h from to number rising le = refl
none_told table (t ∷ ts) (c ∷ cs) h from to number rising le =
    ap (λ b. cond b (t ∷ told_up_to number ts) (told_up_to number ts)) (lt-leb t.0 number (omega (arith, h.0, rising.0, le)))
    ∙ none_told (applied table t.1) ts cs h.2 c.1.ticket.«record» to number rising.1 (omega (arith, rising.0, le))
none_told table [] (c ∷ cs) h from to number rising le = absurd h
none_told table (t ∷ ts) [] h from to number rising le = absurd h

those_up_to : (table : Table) (told : List (ℕ × List Write)) (cs : Commits) → AreThose table told cs → (from to number : ℕ) → AreRisingTo from to cs
    → with_commits table (commits_up_to number cs) ≡ over table (told_up_to number told)
those_up_to table [] [] h from to number rising = refl
those_up_to table [] (c ∷ cs) h from to number rising = absurd h
those_up_to table (t ∷ ts) [] h from to number rising = absurd h
those_up_to table (t ∷ ts) (c ∷ cs) h from to number rising = elim (cases_lt number c.1.ticket.«record») [
  | inl lt ↦
      ap (with_commits table) (left_out (lt-leb c.1.ticket.«record» number lt) ∙ none_up_to c.1.ticket.«record» to cs number rising.1 (omega (arith, lt)))
      ∙ sym (ap (over table) (told_out (same_test ∙ lt-leb c.1.ticket.«record» number lt)
      ∙ none_told (applied table t.1) ts cs h.2 c.1.ticket.«record» to number rising.1 (omega (arith, lt))))
  | inr le ↦
      ap (with_commits table) (taken (le-leb c.1.ticket.«record» number le))
      ∙ (ap (λ m. with_commits m (commits_up_to number cs)) h.1
      ∙ (those_up_to (applied table t.1) ts cs h.2 c.1.ticket.«record» to number rising.1
      ∙ sym (ap (over table) (told_in (same_test ∙ le-leb c.1.ticket.«record» number le)))))
]
  where
    same_test : nat_le t.0 number ≡ nat_le c.1.ticket.«record» number
    same_test = ap (λ n. nat_le n number) (sym h.0)

    taken : nat_le c.1.ticket.«record» number ≡ true → commits_up_to number (c ∷ cs) ≡ c ∷ commits_up_to number cs
    taken e = ap (λ b. cond b (c ∷ commits_up_to number cs) (commits_up_to number cs)) e

    left_out : nat_le c.1.ticket.«record» number ≡ false → commits_up_to number (c ∷ cs) ≡ commits_up_to number cs
    left_out e = ap (λ b. cond b (c ∷ commits_up_to number cs) (commits_up_to number cs)) e

    told_in : nat_le t.0 number ≡ true → told_up_to number (t ∷ ts) ≡ t ∷ told_up_to number ts
    told_in e = ap (λ b. cond b (t ∷ told_up_to number ts) (told_up_to number ts)) e

    told_out : nat_le t.0 number ≡ false → told_up_to number (t ∷ ts) ≡ told_up_to number ts
    told_out e = ap (λ b. cond b (t ∷ told_up_to number ts) (told_up_to number ts)) e

-- ---- what whoever gets at the core finds

module _ (o : Opened) (can : CanOpen o) (calls : List (Event × Reply)) (pushed : List RecordValue) (core : CoreValue) (so : HasReplied o calls pushed core)
    (cs : Commits)
    (those : AreThose o.given.table (commits_told (items_of no_writes calls)) cs) (rising : AreRisingTo o.given.last core.last cs) where
  abbrev records : List RecordValue
  records = pushed ++ core.outbox

  -- the first n of the records
  first : (n : ℕ) → n ≤ length records → (given_after o.given (take n records)).table ≡ with_commits o.given.table (commits_up_to (o.given.last + n) cs)
  first n le =
      let beginning : IsBeginning o.given (items_of no_writes calls) (o.given.last + n) (given_after o.given (take n records)) =
      recovers o can calls pushed core so n le in
      let last : o.given.last + length (take n records) ≡ o.given.last + n = ap (λ m. o.given.last + m) (length-take-le n records le) in
      beginning.table
      ∙ (ap (λ m. table_after o.given.table (up_to m (items_of no_writes calls))) last
      ∙ (table_told o.given.table (up_to (o.given.last + n) (items_of no_writes calls))
      ∙ (ap (over o.given.table) (commits_up (o.given.last + n) (items_of no_writes calls))
      ∙ sym (those_up_to o.given.table (commits_told (items_of no_writes calls)) cs those o.given.last core.last (o.given.last + n) rising))))

  at_number : (number : ℕ) → o.given.last ≤ number → (given_after o.given (take (number - o.given.last) records)).table
      ≡ with_commits o.given.table (commits_up_to number cs)
  at_number number above = elim (cases_lt (length records) (number - o.given.last)) [
    | inr le ↦ first (number - o.given.last) le ∙ ap (λ m. with_commits o.given.table (commits_up_to m cs)) (back above)
    | inl lt ↦
        let all : take (number - o.given.last) records ≡ take (length records) records = take_all (number - o.given.last) records (omega (arith, lt))
        ∙ sym (take_all (length records) records (omega arith)) in
        let last : core.last ≡ o.given.last + length records = numbered o can calls pushed core so in
        ap (λ rs. (given_after o.given rs).table) all
        ∙ (first (length records) (omega arith)
        ∙ ap (with_commits o.given.table) (all_up_to o.given.last core.last cs (o.given.last + length records) rising (omega (arith, last))
        ∙ sym (all_up_to o.given.last core.last cs number rising (omega (arith, last, lt, above)))))
  ]
    where
      back : o.given.last ≤ number → o.given.last + (number - o.given.last) ≡ number
      back le = omega (arith, le)

  pub shows : ShowsCommits o records core cs
  shows = record {
    recovered = at_number;
    committed = (holds o can calls pushed core so).table
        ∙ (table_told o.given.table (items_of no_writes calls) ∙ sym (those_table o.given.table (commits_told (items_of no_writes calls)) cs those));
  }
