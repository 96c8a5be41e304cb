-- A checkpoint that was taken in pieces is a copy: each entry as it was at some moment.
use Rattle.std.proofs.Common.{List, None, Option, Some, [], ap, append_assoc, inl, inr, refl, subst, sym, ◌++◌, ◌∙◌, ◌∷◌, ◌≡◌, ◌≢◌, ◌⊎◌}
use Rattle.std.specs.Cmp.{tied_itself}
use Rattle.std.specs.FinMap.{empty, get, get-empty}
use Rattle.std.specs.Ordering.{ordering_reverse}
use Rattle.std.specs.declared.cmp.Ordering.{Ordering}
use Rattle.std.specs.declared.cmp.Ordering.TheVariants.{Equal, Greater, Less}
use Rattle.btree_node.specs.Above.{IsAfter, IsLeastAbove}
use Rattle.record_values.specs.Entries.{Index}
use Rattle.record_values.specs.Maps.{get-set_at_other, get-set_at_same, pair_exact, set_at}
use Rattle.record_values.specs.Orders.{pair_cmp, pair_cmp-IsAntisymmetric, pair_cmp_total}
use Rattle.record_values.specs.declared.pair.Mark.{Mark}
use Rattle.record_values.specs.declared.pair.Pair.{Pair}
use Rattle.online_index.specs.Pieces.{IsPieceOf, IsSavedDuring, last_piece, one_piece}
use Rattle.online_model.specs.Logs.{Cells, HeldAtSomeMoment, IsCopiedBetween, redone, set_by}
use Rattle.online_model.specs.World.{Runs, Step, World, after, no_step, one_step}
use Rattle.online_model.specs.declared.life.Life.{Life}
use Rattle.online_model.specs.declared.note.Note.{Note}
use Rattle.online_model.specs.declared.note.Note.TheVariants.{EntryIs, LifeIs}

-- ---- pairs in their order
less_equal : (o : Ordering) → o ≡ Less → o ≡ Equal → ⊥
less_equal o l e = absurd (cc)

less_greater : (o : Ordering) → o ≡ Greater → o ≡ Less → ⊥
less_greater o l e = absurd (cc)

apart : (p q : Pair) → pair_cmp p q ≡ Less → q ≢ p
apart p q l e = less_equal (pair_cmp p p) (subst (λ x. pair_cmp p x ≡ Less) e l) (tied_itself pair_cmp_total p)

not_both : (p q : Pair) → pair_cmp p q ≡ Less → pair_cmp q p ≡ Less → ⊥
not_both p q l k = apart p p (pair_cmp_total.trans p q p l k) refl

three_by : (p q : Pair) (o : Ordering) → pair_cmp q p ≡ o → (p ≡ q) ⊎ ((pair_cmp p q ≡ Less) ⊎ (pair_cmp q p ≡ Less))
three_by p q Less e = inr (inr e)
three_by p q Equal e = inl (sym (pair_cmp-IsAntisymmetric q p e))
three_by p q Greater e = inr (inl (pair_cmp_total.antisymm p q ∙ ap ordering_reverse e))

after_by : (q p : Pair) (o : Ordering) → pair_cmp q p ≡ o → IsAfter (Some q) p ⊎ (IsAfter (Some q) p → ⊥)
after_by q p Less e = inl e
after_by q p Equal e = inr (λ l. less_equal (pair_cmp q p) l e)
after_by q p Greater e = inr (λ l. less_greater (pair_cmp q p) e l)

after_or_not : (o : Option Pair) (p : Pair) → IsAfter o p ⊎ (IsAfter o p → ⊥)
after_or_not None p = inl tt
after_or_not (Some q) p = after_by q p (pair_cmp q p) refl

after_more : (o : Option Pair) (p q : Pair) → IsAfter o p → pair_cmp p q ≡ Less → IsAfter o q
after_more None p q h l = tt
after_more (Some s) p q h l = pair_cmp_total.trans s p q h l

apart_from : (o : Option Pair) (p q : Pair) → IsAfter o q → (IsAfter o p → ⊥) → p ≢ q
apart_from o p q h n e = n (subst (λ x. IsAfter o x) (sym e) h)

-- ---- one piece
end_after : (m : Index) (ns : List Note) (start end : Option Pair) → IsPieceOf m start ns end → (p : Pair) → IsAfter end p → IsAfter start p
end_after m [] start end h p l = subst (λ o. IsAfter o p) h l
end_after m (EntryIs q (Some mark) ∷ ns) start end h p l = after_more start q p h.0.0 (end_after m ns (Some q) end h.1 p l)
end_after m (EntryIs q None ∷ ns) start end h p l = absurd h
end_after m (LifeIs life ∷ ns) start end h p l = absurd h

-- a pair that is not after the start keeps its entry
below : (m : Index) (ns : List Note) (start end : Option Pair) → IsPieceOf m start ns end → (c : Cells) (p : Pair) → (IsAfter start p → ⊥)
    → get (redone c ns).entries p ≡ get c.entries p
below m [] start end h c p n = refl
below m (EntryIs q (Some mark) ∷ ns) start end h c p n =
    below m ns (Some q) end h.1 (set_by c (EntryIs q (Some mark))) p (λ l. n (after_more start q p h.0.0 l))
    ∙ get-set_at_other pair_exact c.entries q (Some mark) p (apart_from start p q h.0.0 n)
below m (EntryIs q None ∷ ns) start end h c p n = absurd h
below m (LifeIs life ∷ ns) start end h c p n = absurd h

-- so does one that is after the end
beyond : (m : Index) (ns : List Note) (start end : Option Pair) → IsPieceOf m start ns end → (c : Cells) (p : Pair) → IsAfter end p
    → get (redone c ns).entries p ≡ get c.entries p
beyond m [] start end h c p l = refl
beyond m (EntryIs q (Some mark) ∷ ns) start end h c p l =
    beyond m ns (Some q) end h.1 (set_by c (EntryIs q (Some mark))) p l
    ∙ get-set_at_other pair_exact c.entries q (Some mark) p (apart q p (end_after m ns (Some q) end h.1 p l))
beyond m (EntryIs q None ∷ ns) start end h c p l = absurd h
beyond m (LifeIs life ∷ ns) start end h c p l = absurd h

module _ (m : Index) (ns : List Note) (start end : Option Pair) (q : Pair) (mark : Mark) (least : IsLeastAbove m start (Some (q, mark)))
    (rest : IsPieceOf m (Some q) ns end) (c : Cells) (p : Pair) (l : IsAfter start p) (none : get c.entries p ≡ None) where
  inside_by : (IsAfter (Some q) p → get (set_at c.entries q (Some mark)) p ≡ None
      → get (redone (set_by c (EntryIs q (Some mark))) ns).entries p ≡ get m p)
      → (p ≡ q) ⊎ ((pair_cmp p q ≡ Less) ⊎ (pair_cmp q p ≡ Less))
      → get (redone (set_by c (EntryIs q (Some mark))) ns).entries p ≡ get m p
  inside_by further (inl same) =
      below m ns (Some q) end rest (set_by c (EntryIs q (Some mark))) p (λ less. apart q p less same)
      ∙ ap (get (set_at c.entries q (Some mark))) same ∙ get-set_at_same pair_exact c.entries q (Some mark)
      ∙ sym least.1 ∙ ap (get m) (sym same)
  inside_by further (inr (inl less)) =
      below m ns (Some q) end rest (set_by c (EntryIs q (Some mark))) p (λ more. not_both p q less more)
      ∙ get-set_at_other pair_exact c.entries q (Some mark) p (λ e. apart p q less (sym e))
      ∙ none ∙ sym (least.2 p l less)
  inside_by further (inr (inr more)) =
      further more (get-set_at_other pair_exact c.entries q (Some mark) p (apart q p more) ∙ none)

-- a pair between has the entry that the piece was taken of
inside : (m : Index) (ns : List Note) (start end : Option Pair) → IsPieceOf m start ns end → (c : Cells) (p : Pair) → IsAfter start p
    → (IsAfter end p → ⊥) → get c.entries p ≡ None → get (redone c ns).entries p ≡ get m p
inside m [] start end h c p l n none = absurd (n (subst (λ o. IsAfter o p) (sym h) l))
inside m (EntryIs q (Some mark) ∷ ns) start end h c p l n none =
    inside_by m ns start end q mark h.0 h.1 c p l none
    (λ more gone. inside m ns (Some q) end h.1 (set_by c (EntryIs q (Some mark))) p more n gone)
    (three_by p q (pair_cmp q p) refl)
inside m (EntryIs q None ∷ ns) start end h c p l n none = absurd h
inside m (LifeIs life ∷ ns) start end h c p l n none = absurd h

piece_life : (m : Index) (ns : List Note) (start end : Option Pair) → IsPieceOf m start ns end → (c : Cells) → (redone c ns).life ≡ c.life
piece_life m [] start end h c = refl
piece_life m (EntryIs q (Some mark) ∷ ns) start end h c = piece_life m ns (Some q) end h.1 (set_by c (EntryIs q (Some mark)))
piece_life m (EntryIs q None ∷ ns) start end h c = absurd h
piece_life m (LifeIs life ∷ ns) start end h c = absurd h

-- ---- all pieces
pub redone_append : (ns ms : List Note) (c : Cells) → redone c (ns ++ ms) ≡ redone (redone c ns) ms
redone_append [] ms c = refl
redone_append (n ∷ ns) ms c = redone_append ns ms (set_by c n)

run_append : (w m v : World) (es fs : List Step) → Runs w es m → Runs m fs v → Runs w (es ++ fs) v
run_append w m v es fs no_step q = q
run_append w m v es fs (one_step e rest is r) q = one_step {w = w} {w' = v} e (rest ++ fs) is (run_append (after w e) m v rest fs r q)

pub saved_run : (last : World) (start : Option Pair) (w : World) (es : List Step) (ns : List Note) → IsSavedDuring last start w es ns
    → Runs w es last
saved_run last start w es ns (last_piece m most before later piece r is q) = run_append w m last before later r q
saved_run last start w es ns (one_piece m end most before later piece rest r is s) =
    run_append w m last before later r (saved_run last end m later rest s)

saved_below : (last : World) (start : Option Pair) (w : World) (es : List Step) (ns : List Note) → IsSavedDuring last start w es ns
    → (c : Cells) (p : Pair) → (IsAfter start p → ⊥) → get (redone c ns).entries p ≡ get c.entries p
saved_below last start w es ns (last_piece m most before later piece r is q) c p n = below m.entries piece start is.1.0 is.1.1 c p n
saved_below last start w es ns (one_piece m end most before later piece rest r is s) c p n =
    ap (λ (x : Cells). get x.entries p) (redone_append piece rest c)
    ∙ saved_below last end m later rest s (redone c piece) p (λ l. n (end_after m.entries piece start end is.0 p l))
    ∙ below m.entries piece start end is.0 c p n

saved_life : (last : World) (start : Option Pair) (w : World) (es : List Step) (ns : List Note) → IsSavedDuring last start w es ns
    → (c : Cells) → (redone c ns).life ≡ c.life
saved_life last start w es ns (last_piece m most before later piece r is q) c = piece_life m.entries piece start is.1.0 is.1.1 c
saved_life last start w es ns (one_piece m end most before later piece rest r is s) c =
    ap (λ (x : Cells). x.life) (redone_append piece rest c)
    ∙ saved_life last end m later rest s (redone c piece) ∙ piece_life m.entries piece start end is.0 c

abbrev Held : World → World → List Step → Cells → Pair → Type 0
Held last w es c p = HeldAtSomeMoment w es last (λ x. get c.entries p ≡ get x.entries p)

last_by : (m : Index) (ns : List Note) (start end : Option Pair) → IsPieceOf m start ns end → IsLeastAbove m end None → (c : Cells) (p : Pair)
    → IsAfter start p → get c.entries p ≡ None → IsAfter end p ⊎ (IsAfter end p → ⊥) → get (redone c ns).entries p ≡ get m p
last_by m ns start end h least c p l none (inl more) = beyond m ns start end h c p more ∙ none ∙ sym (least p more)
last_by m ns start end h least c p l none (inr n) = inside m ns start end h c p l n none

module _ (last : World) (start : Option Pair) (w m : World) (end : Option Pair) (before later : List Step) (piece rest : List Note)
    (r : Runs w before m) (is : IsPieceOf m.entries start piece end) (s : IsSavedDuring last end m later rest) (c : Cells) (p : Pair)
    (l : IsAfter start p) (none : get c.entries p ≡ None) where
  one_by : (IsAfter end p → get (redone c piece).entries p ≡ None → Held last m later (redone (redone c piece) rest) p)
      → IsAfter end p ⊎ (IsAfter end p → ⊥) → Held last w (before ++ later) (redone c (piece ++ rest)) p
  one_by further (inl more) =
      let h : Held last m later (redone (redone c piece) rest) p = further more (beyond m.entries piece start end is c p more ∙ none) in
      record {
        before = before ++ h.before;
        later = h.later;
        moment = h.moment;
        first = run_append w m h.moment before h.before r h.first;
        rest = h.rest;
        all = ap (λ es. before ++ es) h.all ∙ sym (append_assoc before h.before h.later);
        held = ap (λ (x : Cells). get x.entries p) (redone_append piece rest c) ∙ h.held;
      }
  one_by further (inr n) = record {
    before = before;
    later = later;
    moment = m;
    first = r;
    rest = saved_run last end m later rest s;
    all = refl;
    held = ap (λ (x : Cells). get x.entries p) (redone_append piece rest c)
        ∙ saved_below last end m later rest s (redone c piece) p n ∙ inside m.entries piece start end is c p l n none;
  }

saved_entry : (last : World) (start : Option Pair) (w : World) (es : List Step) (ns : List Note) → IsSavedDuring last start w es ns
    → (c : Cells) (p : Pair) → IsAfter start p → get c.entries p ≡ None → Held last w es (redone c ns) p
saved_entry last start w es ns (last_piece m most before later piece r is q) c p l none = record {
  before = before;
  later = later;
  moment = m;
  first = r;
  rest = q;
  all = refl;
  held = last_by m.entries piece start is.1.0 is.1.1 is.1.2 c p l none (after_or_not is.1.0 p);
}
saved_entry last start w es ns (one_piece m end most before later piece rest r is s) c p l none =
    one_by last start w m end before later piece rest r is.0 s c p l none
    (λ more gone. saved_entry last end m later rest s (redone c piece) p more gone) (after_or_not end p)

-- with the life of a moment of these steps it is a copy
pub is_copied : (begun last : World) (steps : List Step) (pieces : List Note) (life : Life) → IsSavedDuring last None begun steps pieces
    → HeldAtSomeMoment begun steps last (λ m. life ≡ m.life)
    → IsCopiedBetween begun steps last (redone (record { entries = empty; life = life }) pieces)
is_copied begun last steps pieces life s l = record {
  entries = λ p. saved_entry last None begun steps pieces s (record { entries = empty; life = life }) p tt (get-empty pair_cmp p);
  life = record {
    before = l.before;
    later = l.later;
    moment = l.moment;
    first = l.first;
    rest = l.rest;
    all = l.all;
    held = saved_life last None begun steps pieces s (record { entries = empty; life = life }) ∙ l.held;
  };
}
