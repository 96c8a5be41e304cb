use Rattle.std.proofs.Common.{◌≡◌, ◌∙◌, ◌++◌, ◌∷◌, [], List, ap, append-nil, append_assoc, map, sym}
use Rattle.std.proofs.lemmas.List.{nil_from_length}
use Rattle.std.proofs.lemmas.Result.{IfOk-from_err}
use Rattle.std.specs.Prelude.{flat_map}
use Rattle.program_team.proofs.team.add_all.Goals as goal

-- A list with what comes of the rest of others: as the rest begins, with what comes of one more, and once none is left.
map_same : {W X : Type 0} (f : W → X) (a : List X) (vs ws : List W) → vs ≡ ws → a ++ map f vs ≡ a ++ map f ws
map_same f a vs ws same = ap (λ us. a ++ map f us) same

map_more : {W X : Type 0} (f : W → X) (a b : List X) (w : W) (ws rest : List W) (all : List X) → b ≡ a ++ f w ∷ [] → ws ≡ w ∷ rest → a ++ map f ws ≡ all
    → b ++ map f rest ≡ all
map_more f a b w ws rest all one next so_far =
    ap (λ xs. xs ++ map f rest) one ∙ (append_assoc a (f w ∷ []) (map f rest) ∙ (map_same f a (w ∷ rest) ws (sym next) ∙ so_far))

map_all : {W X : Type 0} (f : W → X) (a : List X) (ws : List W) (all : List X) → ws ≡ [] → a ++ map f ws ≡ all → a ≡ all
map_all f a ws all none so_far = sym (append-nil a) ∙ (map_same f a [] ws (sym none) ∙ so_far)

flat_same : {W X : Type 0} (f : W → List X) (a : List X) (vs ws : List W) → vs ≡ ws → a ++ flat_map f vs ≡ a ++ flat_map f ws
flat_same f a vs ws same = ap (λ us. a ++ flat_map f us) same

flat_more : {W X : Type 0} (f : W → List X) (a b : List X) (w : W) (ws rest : List W) (all : List X) → b ≡ a ++ f w → ws ≡ w ∷ rest → a ++ flat_map f ws ≡ all
    → b ++ flat_map f rest ≡ all
flat_more f a b w ws rest all one next so_far =
    ap (λ xs. xs ++ flat_map f rest) one ∙ (append_assoc a (f w) (flat_map f rest) ∙ (flat_same f a (w ∷ rest) ws (sym next) ∙ so_far))

flat_all : {W X : Type 0} (f : W → List X) (a : List X) (ws : List W) (all : List X) → ws ≡ [] → a ++ flat_map f ws ≡ all → a ≡ all
flat_all f a ws all none so_far = sym (append-nil a) ∙ (flat_same f a [] ws (sym none) ∙ so_far)

pub loop-writer-init : goal.loop-writer-init
loop-writer-init g c =
    let given = c.into_iter-writer-iterator.ensures.into_iter_gives.0 in
    record {
      seats = map_same (λ w. w.seat) _ _ _ given;
      acks = flat_same (λ w. w.acks.items) _ _ _ given;
      acknowledged = flat_same (λ w. w.acknowledged.items) _ _ _ given;
    }

pub loop-writer-preserved : goal.loop-writer-preserved
loop-writer-preserved g c =
    let next = c.in-Some.ensures.steps.0 in
    record {
      seats = map_more (λ w. w.seat) _ _ c.in-Some.writer _ _ _ c.in_ok-add_writer.ensures.seats next c.loop-writer.invariant.seats;
      acks = flat_more (λ w. w.acks.items) _ _ c.in-Some.writer _ _ _ c.in_ok-add_writer.ensures.acks next c.loop-writer.invariant.acks;
      acknowledged = flat_more (λ w. w.acknowledged.items) _ _ c.in-Some.writer _ _ _ c.in_ok-add_writer.ensures.acknowledged next
          c.loop-writer.invariant.acknowledged;
    }

pub returns-in_err-add_writer-clause-seats : goal.returns-in_err-add_writer-clause-seats
returns-in_err-add_writer-clause-seats g c = IfOk-from_err c.from_residual.result _ c.from_residual.ensures.0

pub returns-in_err-add_writer-clause-acks : goal.returns-in_err-add_writer-clause-acks
returns-in_err-add_writer-clause-acks g c = IfOk-from_err c.from_residual.result _ c.from_residual.ensures.0

pub returns-in_err-add_writer-clause-acknowledged : goal.returns-in_err-add_writer-clause-acknowledged
returns-in_err-add_writer-clause-acknowledged g c = IfOk-from_err c.from_residual.result _ c.from_residual.ensures.0

pub returns-clause-seats : goal.returns-clause-seats
returns-clause-seats g c =
    let rest = c.loop-writer.writer-iterator.rest in
    map_all (λ w. w.seat) _ rest.items _ (nil_from_length rest.items (sym rest.ok.0 ∙ c.in-None.ensures.steps.0)) c.loop-writer.invariant.seats

pub returns-clause-acks : goal.returns-clause-acks
returns-clause-acks g c =
    let rest = c.loop-writer.writer-iterator.rest in
    flat_all (λ w. w.acks.items) _ rest.items _ (nil_from_length rest.items (sym rest.ok.0 ∙ c.in-None.ensures.steps.0)) c.loop-writer.invariant.acks

pub returns-clause-acknowledged : goal.returns-clause-acknowledged
returns-clause-acknowledged g c =
    let rest = c.loop-writer.writer-iterator.rest in
    flat_all (λ w. w.acknowledged.items) _ rest.items _ (nil_from_length rest.items (sym rest.ok.0 ∙ c.in-None.ensures.steps.0))
    c.loop-writer.invariant.acknowledged
