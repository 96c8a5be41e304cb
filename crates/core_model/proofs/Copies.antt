-- What an image that was copied in a run gives with its log.
use Rattle.std.proofs.Common.{List, None, Option, Some, [], ap, arith, length, refl, subst, sym, take, ℕ, ◌++◌, ◌+◌, ◌∙◌, ◌≡◌, ◌≤◌}
use Rattle.std.proofs.lemmas.List.{append_assoc}
use Rattle.std.specs.Prelude.{map}
use Rattle.records.specs.RecordValue.{RecordValue}
use Rattle.records.specs.declared.record.Action.{Action}
use Rattle.model.proofs.HistoryLaws.{up_to-append}
use Rattle.model.proofs.ImageLaws.{redone_image}
use Rattle.model.specs.Cells.{Cells, cells_after}
use Rattle.model.specs.Given.{Given, IsBeginning, recovered}
use Rattle.model.specs.History.{Deed, Item, life_after, table_after, up_to}
use Rattle.model.specs.Images.{IsCopied}
use Rattle.model.specs.declared.write.Write.{Write}
use Rattle.core_model.proofs.Followed.{made_holds}
use Rattle.core_model.proofs.Histories.{opened_holds, told_life, told_table}
use Rattle.core_model.proofs.Logs.{IsRecovered, SameStore, UpTo, items_deeds, no_deeds, recovers_state, run_cells, same_store, up_here, up_to_record}
use Rattle.core_model.proofs.Runs.{run_keeps}
use Rattle.core_model.specs.Histories.{CanOpen, Opened, deeds_of, no_writes, opened, writes_after, writes_over}
use Rattle.core_model.specs.Invariants.{Runs, no_step, one_step}
use Rattle.core_model.specs.Logs.{HasMade, item_at, items_from, items_over, next_number, one_record, records_from, records_over}
use Rattle.core_model.specs.Records.{HasCells, action_of}
use Rattle.core_model.specs.States.{State}
use Rattle.core_model.specs.Steps.{MachineStep, after}

run-append : (s s' s'' : State) (es later : List MachineStep) → Runs s es s' → Runs s' later s'' → Runs s (es ++ later) s''
run-append s s' s'' es later no_step r = r
run-append s s' s'' es later (one_step e rest a first) r = one_step {s = s} {s' = s''} e (rest ++ later) a (run-append (after s e) s' s'' rest later first r)

shift : (last n : ℕ) (o : Option Action) (records : List RecordValue) → n ≡ last + length (one_record last o ++ records)
    → n ≡ next_number last o + length records
shift last n None records h = h
shift last n (Some action) records h = omega (arith, h)

items-append : (s s' : State) (es later : List MachineStep) → Runs s es s' → (writes : ℕ → List Write) (last n : ℕ) → n ≡ last + length (records_from s last es)
    → items_from writes s last (es ++ later) ≡ items_from writes s last es ++ items_from (writes_over writes es) s' n later
items-append s s' es later no_step writes last n h = ap (λ m. items_from writes s m later) (sym (h ∙ no_more))
  where
    no_more : last + 0 ≡ last
    no_more = omega arith
items-append s s' es later (one_step f rest b r) writes last n h =
    ap (λ l. map (item_at last) (deeds_of writes f) ++ l)
    (items-append (after s f) s' rest later r (writes_after writes f) (next_number last (action_of s f)) n (shift last n (action_of s f) _ h))
    ∙ sym (append_assoc (map (item_at last) (deeds_of writes f)) (items_from (writes_after writes f) (after s f) (next_number last (action_of s f)) rest)
    (items_from (writes_over (writes_after writes f) rest) s' n later))

-- all items of a run are up to its last record
all_up_to : (s s' : State) (es : List MachineStep) → Runs s es s' → (writes : ℕ → List Write) (last n : ℕ) → last + length (records_from s last es) ≤ n
    → up_to n (items_from writes s last es) ≡ items_from writes s last es
all_up_to s s' es no_step writes last n le = refl
all_up_to s s' es (one_step e rest a r) writes last n le =
    up_to-append n (map (item_at last) (deeds_of writes e)) (items_from (writes_after writes e) (after s e) (next_number last (action_of s e)) rest)
    ∙ ap (λ l. l ++ up_to n (items_from (writes_after writes e) (after s e) (next_number last (action_of s e)) rest))
    (here (action_of s e) (deeds_of writes e) (no_deeds s writes e) le)
    ∙ ap (λ l. map (item_at last) (deeds_of writes e) ++ l)
    (all_up_to (after s e) s' rest r (writes_after writes e) (next_number last (action_of s e)) n (fewer (action_of s e) le))
  where
    here : (o : Option Action) (ds : List Deed) → (o ≡ None → ds ≡ [])
        → last + length (one_record last o ++ records_from (after s e) (next_number last o) rest) ≤ n → up_to n (map (item_at last) ds) ≡ map (item_at last) ds
    here None ds h le = subst (λ l. up_to n (map (item_at last) l) ≡ map (item_at last) l) (sym (h refl)) refl
    here (Some action) ds h le = up_here last n (omega (arith, le)) ds

    fewer : (o : Option Action) → last + length (one_record last o ++ records_from (after s e) (next_number last o) rest) ≤ n
        → next_number last o + length (records_from (after s e) (next_number last o) rest) ≤ n
    fewer None le = le
    fewer (Some action) le = omega (arith, le)

module _ (o : Opened) (can : CanOpen o) (before : List RecordValue) (items : List Item) (writes : ℕ
    → List Write) (s : State) (h : HasMade o before items writes s) (cells : Cells) (c : HasCells s cells)
    (es : List MachineStep) (s' : State) (run : Runs s es s') where
  abbrev base : ℕ
  base = o.given.last + length before

  abbrev log : List RecordValue
  log = records_from s base es

  abbrev all_items : List Item
  all_items = items ++ items_from writes s base es

  module _ (m : ℕ) (image : Cells) (copied : IsCopied cells log m image) (k : ℕ) (from : m ≤ k) (to : k ≤ length log) where
    part : UpTo writes s base es k
    part = up_to_record s s' es run writes base k to

    whole : Runs (opened o) (h.steps ++ part.steps) part.end
    whole = run-append (opened o) s part.end h.steps part.steps h.run part.run

    set : HasCells part.end (cells_after image (take k log))
    set =
        subst (HasCells part.end) (ap (cells_after cells) (sym part.records) ∙ sym (redone_image cells log m image copied k from))
        (run_cells s part.end part.steps part.run (made_holds o can before items writes s h) base cells c)

    last_is : base ≡ o.given.last + length (records_over o h.steps)
    last_is = ap (λ (rs : List RecordValue). o.given.last + length rs) h.records

    same_items : up_to (base + k) all_items ≡ items_over o (h.steps ++ part.steps)
    same_items =
        let enough : o.given.last + length (records_over o h.steps) ≤ base + k = omega (arith, last_is) in
        up_to-append (base + k) items (items_from writes s base es)
        ∙ ap (λ l. l ++ up_to (base + k) (items_from writes s base es)) (ap (up_to (base + k)) h.history
        ∙ all_up_to (opened o) s h.steps h.run no_writes o.given.last (base + k) enough)
        ∙ ap (λ l. items_over o h.steps ++ l) (part.items ∙ ap (λ w. items_from w s base part.steps) h.asked)
        ∙ sym (items-append (opened o) s h.steps part.steps h.run no_writes o.given.last base last_is)

    abbrev given : Given
    given = recovered (cells_after image (take k log)) (base + k)

    is_recovered : IsRecovered part.end given
    is_recovered = recovers_state part.end (run_keeps _ part.end (h.steps ++ part.steps) whole (opened_holds o can)) (cells_after image (take k log)) set
        (base + k)

    image_opens : CanOpen (record o { given = given })
    image_opens =
        let v : SameStore (opened o) part.end = same_store (opened o) part.end (h.steps ++ part.steps) whole in
        subst CanOpen (λ i. record { given = given; pages = v.pages i; places = v.places i }) is_recovered.opens

    pub image_begins : IsBeginning o.given all_items (base + k) given × CanOpen (record o { given = given })
    image_begins = (
      record {
        has_floor = omega arith;
        table = is_recovered.table ∙ told_table o (h.steps ++ part.steps) part.end whole (items_over o (h.steps ++ part.steps))
            (items_deeds no_writes (opened o) o.given.last (h.steps ++ part.steps)) ∙ ap (table_after o.given.table) (sym same_items);
        life = set.life ∙ told_life o (h.steps ++ part.steps) part.end whole (items_over o (h.steps ++ part.steps))
            (items_deeds no_writes (opened o) o.given.last (h.steps ++ part.steps)) ∙ ap (life_after o.given.life) (sym same_items);
        shown = image_opens.sound;
      },
      image_opens,
    )
