-- An engine as it was opened, and behind steps of the builder alone.
use Rattle.std.proofs.Common.{◌≡◌, ℕ, zero, suc, List, [], ◌∷◌, ◌++◌, Option, None, Some, length, take, drop, refl, sym, ap, subst, ◌∙◌, arith}
use Rattle.std.specs.FinMap as map
use Rattle.record_values.specs.GeometryValue.{GeometryValue}
use Rattle.record_values.specs.declared.pair.Mark.TheVariants.{Live}
use Rattle.record_values.specs.declared.pair.Pair.{Pair}
use Rattle.records.specs.RecordValue.{RecordValue}
use Rattle.model.specs.Given.{Given}
use Rattle.model.specs.Table.{IsPairOf}
use Rattle.core_model.specs.Events as core
use Rattle.core_model.specs.Events.{Standing, after_build, standing_after, standing_at}
use Rattle.core_model.specs.Histories.{CanOpen, IsCovered, Opened, highest_of}
use Rattle.core_model.specs.Replies.{IsAllowed, accepted, no_memory, refused, refused_last, skipped, unknown}
use Rattle.core_model.specs.Served.{ServesAll, nothing, served}
use Rattle.core_model.specs.States.{State}
use Rattle.core_model.specs.Steps.{MachineStep}
use Rattle.sector_device.specs.DevicePast.{DevicePast}
use Rattle.restart.specs.declared.event.Reply.{Reply}
use Rattle.restart.specs.declared.parts.EngineParts.{EngineParts}
use Rattle.restart.specs.Building.{AreBuilt, builds}
use Rattle.restart.specs.History.{answered, both, core_calls}
use Rattle.restart.specs.Parts.{core_of, device_of, horizon_of, unhanded, unwritten}
use Rattle.restart.specs.Reopening.{opening}
use Rattle.restart.specs.Store.{IsAt, and_then, over}
use Rattle.headline.specs.Fitting.{IsIndexOf}
use Rattle.headline.specs.Held.{IsQuiet}

-- ---- the index that a core may begin with

pub index_over : (o : Opened) → CanOpen o → IsIndexOf o.given.table o.given.life o.given.entries
index_over o opens = record { sound = opens.sound; whole = shown; gone = opens.empty }
  where
    shown : (pair : Pair) → IsCovered o.given.life (highest_of o.given.life) pair → IsPairOf o.given.table pair
        → map.get o.given.entries pair ≡ Some Live
    shown pair built is =
        let of_row : Pair = record { key = is.row.key; rid = pair.rid } in
        let same : of_row ≡ pair = ap (λ (key : List ℕ). let p : Pair = record { key = key; rid = pair.rid } in p) is.has_key in
        subst (λ (p : Pair). map.get o.given.entries p ≡ Some Live) same
        (opens.complete pair.rid is.row is.is_there
        (subst (IsCovered o.given.life (highest_of o.given.life)) (sym same) built))

pub index_of : (g : GeometryValue) (given : Given) → CanOpen (over g given) → IsIndexOf given.table given.life given.entries
index_of g given opens = index_over (over g given) opens

-- ---- an engine that served nothing

nil : {A : Type 0} (l : List A) → length l ≡ 0 → l ≡ []
nil [] none = refl
nil (x ∷ l) none = absurd cc

drop_none : {A : Type 0} (n : ℕ) → drop {A = A} n [] ≡ []
drop_none zero = refl
drop_none (suc n) = refl

take_none : {A : Type 0} (n : ℕ) → take {A = A} n [] ≡ []
take_none zero = refl
take_none (suc n) = refl

none_of : (m n : ℕ) (l : List RecordValue) → l ≡ [] → take n (drop m l) ≡ []
none_of m n l none = ap (λ (x : List RecordValue). take n (drop m x)) none ∙ ap (take n) (drop_none m) ∙ take_none n

stands_still : {s new : State} {k next : Standing} {pairs : List (core.Event × core.Reply)} {made : List RecordValue} → ServesAll s k pairs made new next
    → pairs ≡ [] → next ≡ k
stands_still nothing none = refl
stands_still (served e reply step rest later allowed more) none = absurd cc

pub none_waits : {D M : Type 0} (past_of : D → DevicePast) (g : GeometryValue) (given : Given) (engine : EngineParts D M)
    → IsAt past_of (opening g given) engine → horizon_of engine ≡ given.last → unwritten engine ≡ []
none_waits past_of g given engine at horizon =
    let still : at.standing ≡ standing_at given.last = stands_still at.served.served refl in
    let none : at.made ≡ [] = nil at.made (omega (arith, at.served.number, ap (λ (k : Standing). k.made) still)) in
    ap (λ (l : List RecordValue). l ++ unhanded engine) (at.stands.writer.waits ∙ none_of _ _ at.made none)
    ∙ sym at.stands.rest ∙ none_of _ _ at.made none

-- ---- steps of the builder

abbrev AreBuilds : List (core.Event × core.Reply) → Type 0
AreBuilds [] = Unit {0}
AreBuilds (p ∷ pairs) = (p.0 ≡ core.Build) × AreBuilds pairs

begun_still : (k : Standing) (b : core.BuildReply) → (after_build k b).active ≡ k.active
begun_still k (core.Scanned page) = refl
begun_still k (core.Placed p) = refl
begun_still k (core.Rejected p) = refl
begun_still k (core.BuildReply.Marked p n) = refl
begun_still k (core.Done n) = refl
begun_still k core.Idle = refl

one_still : (s : State) (k : Standing) (reply : core.Reply) (step : Option MachineStep) → IsAllowed s k core.Build reply step
    → (standing_after k reply).active ≡ k.active
one_still s k reply step (unknown none) = refl
one_still s k reply step (skipped not improper) = refl
one_still s k reply step (refused not proper error first) = refl
one_still s k reply step (refused_last not proper first r st due error is) = refl
one_still s k reply step (no_memory not proper first r st due last wants) = refl
one_still s k reply step (accepted not proper first r st due last) =
    ap (λ (x : core.Reply). (standing_after k x).active) due.2 ∙ begun_still k due.0

builds_still : {s new : State} {k next : Standing} {pairs : List (core.Event × core.Reply)} {made : List RecordValue} → ServesAll s k pairs made new next
    → AreBuilds pairs → next.active ≡ k.active
builds_still nothing are = refl
builds_still {s = s} {k = k} (served e reply step rest later allowed more) are =
    builds_still more are.1 ∙ one_still s k reply step (subst (λ (x : core.Event). IsAllowed s k x reply step) are.0 allowed)

one_call : (answer : Option core.Reply) (rest : List (core.Event × core.Reply)) → AreBuilds rest → AreBuilds (both (Some core.Build) answer ++ rest)
one_call None rest are = are
one_call (Some reply) rest are = (refl, are)

calls : {M : Type 0} (replies : List (Reply M)) → AreBuilds (core_calls (builds replies) replies)
calls [] = tt
calls (r ∷ replies) = one_call (answered r) (core_calls (builds replies) replies) (calls replies)

pub settled : {D M : Type 0} (past_of : D → DevicePast) (g : GeometryValue) (given : Given) (engine : EngineParts D M) (replies : List (Reply M))
    → IsAt past_of (and_then (opening g given) (builds replies) replies) engine → IsQuiet g (core_of engine)
settled past_of g given engine replies at =
    let shown = at.stands.shown.shown in
    let still : at.standing.active ≡ 0 = builds_still at.served.served (calls replies) in
    record {
      active = nil (core_of engine).txns.active (sym shown.active ∙ still);
      pages = sym shown.pages ∙ sym at.stands.pages;
      places = sym shown.places ∙ sym at.stands.places;
    }

pub same_device : {D M : Type 0} (replies : List (Reply M)) (old new : EngineParts D M) → AreBuilt replies old new → device_of new ≡ device_of old
same_device [] old new same = ap device_of same
same_device (r ∷ replies) old new are = same_device replies are.0 new are.2 ∙ ap device_of are.1.rest
