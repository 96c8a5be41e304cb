-- Where the copying of an image goes on.
use Rattle.std.proofs.Common.{◌≡◌, inl, inr, ⊎_elim, ℕ, ◌+◌, ◌<◌, true, false, Bool, Option, Some, None, refl, sym, ap, ◌∙◌, arith}
use Rattle.std.specs.Prelude.{nat_lt, if◌then◌else◌}
use Rattle.std.specs.Option.{option_map, option_map_or}
use Rattle.std.proofs.lemmas.Bool.{ltb-true, ltb-false}
use Rattle.std.proofs.lemmas.Option.{same_Some}
use Rattle.record_values.specs.declared.pair.Pair.{Pair}
use Rattle.record_values.specs.declared.pair.Mark.{Mark}
use Rattle.model.specs.declared.life.Life.{Life}
use Rattle.store_image_model.specs.declared.chunk.CopyPlace.{CopyPlace}
use Rattle.store_image_model.specs.declared.chunk.CopyPlace.TheVariants as at
use Rattle.store_writer.specs.Copying.{IsCopying, next_place}
use Rattle.store_writer.specs.declared.copying.Copying.{Copying}
use Rattle.store_writer.specs.declared.copying.Copying.TheVariants.{Idle, Steps, GivenUp}
use Rattle.store_writer.specs.declared.image.NewImage.{NewImage}
use Rattle.store_writer.specs.declared.image.Stage.{Stage}
use Rattle.store_writer.specs.declared.image.Stage.TheVariants as stage
use Rattle.store_writer.specs.Places.{IsAtPlace}
use Rattle.store_writer.specs.Image.{StaysAtStage}

-- what is told of the image is of one stage, and of one place in it
pub one_stage : (o : Option NewImage) (i j : NewImage) (s t : Stage) → o ≡ Some i → o ≡ Some j → i.stage ≡ s → j.stage ≡ t → s ≡ t
one_stage o i j s t one other is at = sym is ∙ ap (λ (x : NewImage). x.stage) (same_Some i j (sym one ∙ other)) ∙ at

pub one_place : (p q n m : ℕ) (h k : Option Pair) (l t : Life) → stage.Partly p n h l ≡ stage.Partly q m k t → (p ≡ q) × (n ≡ m) × (l ≡ t)
one_place p q n m h k l t same = (cc same, cc same, cc same)

pub not_partly : (p n : ℕ) (h : Option Pair) (l : Life) → stage.Whole ≡ stage.Partly p n h l → ⊥
not_partly p n h l never = (cc)

module _ (pages : ℕ) (there : Option NewImage) (image : NewImage) (there_is : there ≡ Some image) where
  -- behind a page comes the next one, and behind the last page the first entries
  pub behind_page : (page : ℕ) (life : Life) → page < pages → image.stage ≡ stage.Partly (page + 1) 0 None life
      → (b : Bool) → nat_lt (page + 1) pages ≡ b → IsAtPlace pages (Some (if b then at.Page (page + 1) else at.Entries None)) there
  behind_page page life below is true more = (ltb-true (page + 1) pages more, (image, life, there_is, is))
  behind_page page life below is false last =
      let all : page + 1 ≡ pages = omega (arith, below, ltb-false (page + 1) pages last) in
      (image, 0, life, there_is, is ∙ ap (λ (n : ℕ). stage.Partly n 0 None life) all)

  -- behind a full chunk of entries come those above its last one
  pub behind_entries : (count : ℕ) (life : Life) (last : Option (Pair × Mark))
      → image.stage ≡ option_map_or (λ e. stage.Partly pages count (Some e.0) life) last stage.Whole
      → IsAtPlace pages (option_map (λ e. at.Entries (Some e.0)) last) there
  behind_entries count life None is = (image, there_is, is)
  behind_entries count life (Some e) is = (image, count, life, there_is, is)

-- a page comes to an image that is copied in steps only where it is at that page
pub at_page : (pages : ℕ) (copying : Copying) (image : Option NewImage) → IsCopying pages copying image → (i : NewImage) → image ≡ Some i
    → (page count : ℕ) (highest : Option Pair) (life : Life) → i.stage ≡ stage.Partly page count highest life → page < pages
    → IsAtPlace pages (Some (at.Page page)) image
at_page pages Idle image none i there page count highest life is below = absurd (cc (none, there))
at_page pages GivenUp image none i there page count highest life is below = absurd (cc (none, there))
at_page pages (Steps place) image either i there page count highest life is below = ⊎_elim
    (λ none. absurd (cc (none, there)))
    (λ here. by place here)
    either
  where
    by : (place : Option CopyPlace) → IsAtPlace pages place image → IsAtPlace pages (Some (at.Page page)) image
    by None (j, came, from) = absurd (let e : stage.Whole ≡ stage.Partly page count highest life = cc (came, there, from, is) in cc e)
    by (Some at.Start) none = absurd none
    by (Some (at.Page p)) (low, (j, began, came, from)) =
        let e : stage.Partly p 0 None began ≡ stage.Partly page count highest life = cc (came, there, from, is) in
        let same : p ≡ page = cc e in
        (below, (j, began, came, from ∙ ap (λ (n : ℕ). stage.Partly n 0 None began) same))
    by (Some (at.Entries above)) (j, n, began, came, from) =
        let e : stage.Partly pages n above began ≡ stage.Partly page count highest life = cc (came, there, from, is) in
        let same : pages ≡ page = cc e in
        absurd (omega (arith, same, below))

-- and so it is where the copying goes on
pub place_at : (pages : ℕ) (copying : Copying) (image : Option NewImage) → IsCopying pages copying image → (i : NewImage) → image ≡ Some i
    → (page count : ℕ) (highest : Option Pair) (life : Life) → i.stage ≡ stage.Partly page count highest life → page < pages
    → next_place copying ≡ Some (at.Page page)
place_at pages Idle image none i there page count highest life is below = absurd (cc (none, there))
place_at pages GivenUp image none i there page count highest life is below = absurd (cc (none, there))
place_at pages (Steps place) image either i there page count highest life is below = ⊎_elim
    (λ none. absurd (cc (none, there)))
    (λ here. by place here)
    either
  where
    by : (place : Option CopyPlace) → IsAtPlace pages place image → place ≡ Some (at.Page page)
    by None (j, came, from) = absurd (let e : stage.Whole ≡ stage.Partly page count highest life = cc (came, there, from, is) in cc e)
    by (Some at.Start) none = absurd none
    by (Some (at.Page p)) (low, (j, began, came, from)) =
        let e : stage.Partly p 0 None began ≡ stage.Partly page count highest life = cc (came, there, from, is) in
        let same : p ≡ page = cc e in
        ap (λ (n : ℕ). Some (at.Page n)) same
    by (Some (at.Entries above)) (j, n, began, came, from) =
        let e : stage.Partly pages n above began ≡ stage.Partly page count highest life = cc (came, there, from, is) in
        let same : pages ≡ page = cc e in
        absurd (omega (arith, same, below))

-- ---- a flush keeps the place

-- where none was under way, none is
gone : (old new : Option NewImage) → StaysAtStage old new → old ≡ None → new ≡ None
gone old None stays none = refl
gone old (Some n) stays none =
    let (i, there, _) = stays n refl in
    absurd (cc (none, there))

same_stage : (pages : ℕ) (place : Option CopyPlace) (old new : Option NewImage) (i n : NewImage) → old ≡ Some i → new ≡ Some n → n.stage ≡ i.stage
    → IsAtPlace pages place old → IsAtPlace pages place new
same_stage pages None old new i n was is same (j, came, whole) = (n, is, (let e : n.stage ≡ stage.Whole = cc (was, came, same, whole) in e))
same_stage pages (Some at.Start) old new i n was is same none = none
same_stage pages (Some (at.Page page)) old new i n was is same (below, (j, life, came, from)) =
    (below, (n, life, is, (let e : n.stage ≡ stage.Partly page 0 None life = cc (was, came, same, from) in e)))
same_stage pages (Some (at.Entries above)) old new i n was is same (j, count, life, came, from) =
    (n, count, life, is, (let e : n.stage ≡ stage.Partly pages count above life = cc (was, came, same, from) in e))

pub kept_copying : (pages : ℕ) (copying : Copying) (old new : Option NewImage) → StaysAtStage old new → IsCopying pages copying old
    → IsCopying pages copying new
kept_copying pages Idle old new stays none = gone old new stays none
kept_copying pages GivenUp old new stays none = gone old new stays none
kept_copying pages (Steps place) old None stays is = inl refl
kept_copying pages (Steps place) old (Some n) stays is =
    let (i, there, same) = stays n refl in
    ⊎_elim (λ none. absurd (cc (none, there)))
    (λ here. inr (same_stage pages place old (Some n) i n there refl same here)) is
