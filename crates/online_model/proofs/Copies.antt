-- Cells that were copied one after another, with the notes since the copy began redone, are the cells at its end.
use Rattle.std.proofs.Common.{Bool, List, Option, [], ap, append_assoc, cond, false, refl, sym, true, true≢false, ◌++◌, ◌∙◌, ◌∷◌, ◌≡◌}
use Rattle.std.specs.FinMap.{get}
use Rattle.std.specs.Ordering.{eq_by_cmp}
use Rattle.record_values.specs.Maps.{alike, get-set_at, pair_exact, set_at}
use Rattle.record_values.specs.Orders.{pair_cmp}
use Rattle.record_values.specs.declared.pair.Mark.{Mark}
use Rattle.record_values.specs.declared.pair.Pair.{Pair}
use Rattle.online_model.specs.declared.life.Life.{Life}
use Rattle.online_model.proofs.Logs.{run_redone}
use Rattle.online_model.specs.Logs.{Cells, HeldAtSomeMoment, IsCopiedBetween, cells_of, notes_of, notes_over, redone}
use Rattle.online_model.specs.declared.note.Note.{Note}
use Rattle.online_model.specs.declared.note.Note.TheVariants.{EntryIs, LifeIs}
use Rattle.online_model.specs.World.{Runs, Step, World, after, no_step, one_step}

-- what the last note of the pair says, or else this
last_of : List Note → Pair → Option Mark → Option Mark
last_of [] p mark = mark
last_of (EntryIs q now ∷ ns) p mark = last_of ns p (cond (eq_by_cmp pair_cmp p q) now mark)
last_of (LifeIs life ∷ ns) p mark = last_of ns p mark

-- whether there is a note of the pair
is_noted : List Note → Pair → Bool
is_noted [] p = false
is_noted (EntryIs q now ∷ ns) p = cond (eq_by_cmp pair_cmp p q) true (is_noted ns p)
is_noted (LifeIs life ∷ ns) p = is_noted ns p

get_redone : (ns : List Note) (p : Pair) (c : Cells) → get (redone c ns).entries p ≡ last_of ns p (get c.entries p)
unfolding last_of
get_redone [] p c = refl
get_redone (EntryIs q now ∷ ns) p c =
    get_redone ns p (record { entries = set_at c.entries q now; life = c.life }) ∙ ap (last_of ns p) (get-set_at pair_exact c.entries q now p)
get_redone (LifeIs life ∷ ns) p c = get_redone ns p (record { entries = c.entries; life = life })

-- where there is one, what was before has no effect
decided_by : (ns : List Note) (p : Pair) (now a b : Option Mark) → (is_noted ns p ≡ true → last_of ns p a ≡ last_of ns p b)
    → (c : Bool) → cond c true (is_noted ns p) ≡ true → last_of ns p (cond c now a) ≡ last_of ns p (cond c now b)
decided_by ns p now a b h true u = refl
decided_by ns p now a b h false u = h u

noted_decides : (ns : List Note) (p : Pair) (a b : Option Mark) → is_noted ns p ≡ true → last_of ns p a ≡ last_of ns p b
unfolding last_of is_noted
noted_decides [] p a b t = absurd (true≢false (sym t))
noted_decides (EntryIs q now ∷ ns) p a b t = decided_by ns p now a b (noted_decides ns p a b) (eq_by_cmp pair_cmp p q) t
noted_decides (LifeIs life ∷ ns) p a b t = noted_decides ns p a b t

-- where there is none, what was before stays
stays_by : (ns : List Note) (p : Pair) (now a : Option Mark) → (is_noted ns p ≡ false → last_of ns p a ≡ a)
    → (c : Bool) → cond c true (is_noted ns p) ≡ false → last_of ns p (cond c now a) ≡ a
stays_by ns p now a h true u = absurd (true≢false u)
stays_by ns p now a h false u = h u

unnoted_stays : (ns : List Note) (p : Pair) (a : Option Mark) → is_noted ns p ≡ false → last_of ns p a ≡ a
unfolding last_of is_noted
unnoted_stays [] p a t = refl
unnoted_stays (EntryIs q now ∷ ns) p a t = stays_by ns p now a (unnoted_stays ns p a) (eq_by_cmp pair_cmp p q) t
unnoted_stays (LifeIs life ∷ ns) p a t = unnoted_stays ns p a t

front_by : (a b : Bool) → (a ≡ false → b ≡ false) → (c : Bool) → cond c true a ≡ false → cond c true b ≡ false
front_by a b h true u = u
front_by a b h false u = h u

unnoted_front : (ns ms : List Note) (p : Pair) → is_noted (ns ++ ms) p ≡ false → is_noted ns p ≡ false
unfolding is_noted
unnoted_front [] ms p t = refl
unnoted_front (EntryIs q now ∷ ns) ms p t = front_by (is_noted (ns ++ ms) p) (is_noted ns p) (unnoted_front ns ms p) (eq_by_cmp pair_cmp p q) t
unnoted_front (LifeIs life ∷ ns) ms p t = unnoted_front ns ms p t

notes_append : (w v : World) (es fs : List Step) → Runs w es v → notes_over w (es ++ fs) ≡ notes_over w es ++ notes_over v fs
notes_append w v es fs no_step = refl
notes_append w v es fs (one_step e rest enabled r) =
    ap (λ ns. notes_of w e ++ ns) (notes_append (after w e) v rest fs r) ∙ sym (append_assoc (notes_of w e) (notes_over (after w e) rest) (notes_over v fs))

-- the entries at the end of a run, by its notes
entry_by : (w v : World) (es : List Step) → Runs w es v → (p : Pair) → get v.entries p ≡ last_of (notes_over w es) p (get w.entries p)
entry_by w v es r p = ap (λ (c : Cells). get c.entries p) (sym (run_redone w v es r)) ∙ get_redone (notes_over w es) p (cells_of w)

-- the life that the last note of it names, or else this
last_life : List Note → Life → Life
last_life [] life = life
last_life (EntryIs q now ∷ ns) life = last_life ns life
last_life (LifeIs now ∷ ns) life = last_life ns now

-- whether there is a note of the life
is_life_noted : List Note → Bool
is_life_noted [] = false
is_life_noted (EntryIs q now ∷ ns) = is_life_noted ns
is_life_noted (LifeIs now ∷ ns) = true

life_redone : (ns : List Note) (c : Cells) → (redone c ns).life ≡ last_life ns c.life
unfolding last_life
life_redone [] c = refl
life_redone (EntryIs q now ∷ ns) c = life_redone ns (record { entries = set_at c.entries q now; life = c.life })
life_redone (LifeIs now ∷ ns) c = life_redone ns (record { entries = c.entries; life = now })

life_decides : (ns : List Note) (a b : Life) → is_life_noted ns ≡ true → last_life ns a ≡ last_life ns b
unfolding last_life is_life_noted
life_decides [] a b t = absurd (true≢false (sym t))
life_decides (EntryIs q now ∷ ns) a b t = life_decides ns a b t
life_decides (LifeIs now ∷ ns) a b t = refl

life_stays : (ns : List Note) (a : Life) → is_life_noted ns ≡ false → last_life ns a ≡ a
unfolding last_life is_life_noted
life_stays [] a t = refl
life_stays (EntryIs q now ∷ ns) a t = life_stays ns a t
life_stays (LifeIs now ∷ ns) a t = absurd (true≢false t)

life_front : (ns ms : List Note) → is_life_noted (ns ++ ms) ≡ false → is_life_noted ns ≡ false
unfolding is_life_noted
life_front [] ms t = refl
life_front (EntryIs q now ∷ ns) ms t = life_front ns ms t
life_front (LifeIs now ∷ ns) ms t = absurd (true≢false t)

life_by : (w v : World) (es : List Step) → Runs w es v → v.life ≡ last_life (notes_over w es) w.life
life_by w v es r = ap (λ (c : Cells). c.life) (sym (run_redone w v es r)) ∙ life_redone (notes_over w es) (cells_of w)

module _ (begun w : World) (steps : List Step) (run : Runs begun steps w) (copied : Cells) (is : IsCopiedBetween begun steps w copied) where
  abbrev ns : List Note
  ns = notes_over begun steps

  one_entry : (p : Pair) (t : Bool) → is_noted ns p ≡ t → last_of ns p (get copied.entries p) ≡ get w.entries p
  one_entry p true e = noted_decides ns p (get copied.entries p) (get begun.entries p) e ∙ sym (entry_by begun w steps run p)
  one_entry p false e =
      let c : HeldAtSomeMoment begun steps w (λ m. get copied.entries p ≡ get m.entries p) = is.entries p in
      let front : is_noted (notes_over begun c.before) p ≡ false =
      unnoted_front (notes_over begun c.before) (notes_over c.moment c.later) p
      (ap (λ (l : List Note). is_noted l p) (sym (ap (notes_over begun) c.all ∙ notes_append begun c.moment c.before c.later c.first)) ∙ e) in
      unnoted_stays ns p (get copied.entries p) e ∙ c.held ∙ entry_by begun c.moment c.before c.first p
      ∙ unnoted_stays (notes_over begun c.before) p (get begun.entries p) front
      ∙ sym (unnoted_stays ns p (get begun.entries p) e) ∙ sym (entry_by begun w steps run p)

  copied_life : (t : Bool) → is_life_noted ns ≡ t → last_life ns copied.life ≡ w.life
  copied_life true e = life_decides ns copied.life begun.life e ∙ sym (life_by begun w steps run)
  copied_life false e =
      let c : HeldAtSomeMoment begun steps w (λ m. copied.life ≡ m.life) = is.life in
      let front : is_life_noted (notes_over begun c.before) ≡ false =
      life_front (notes_over begun c.before) (notes_over c.moment c.later)
      (ap is_life_noted (sym (ap (notes_over begun) c.all ∙ notes_append begun c.moment c.before c.later c.first)) ∙ e) in
      life_stays ns copied.life e ∙ c.held ∙ life_by begun c.moment c.before c.first
      ∙ life_stays (notes_over begun c.before) begun.life front
      ∙ sym (life_stays ns begun.life e) ∙ sym (life_by begun w steps run)

  entries_redone : (redone copied ns).entries ≡ w.entries
  entries_redone = alike pair_exact _ _ (λ p. get_redone ns p copied ∙ one_entry p (is_noted ns p) refl)

  pub copy_redone : redone copied ns ≡ cells_of w
  copy_redone = λ j. record {
    entries = entries_redone j;
    life = (life_redone ns copied ∙ copied_life (is_life_noted ns) refl) j;
  }
