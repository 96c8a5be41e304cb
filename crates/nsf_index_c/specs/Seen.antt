-- What clauses see of an index under a handle.
use Rattle.std.proofs.Common.{inl, inr, refl}
use Rattle.std.specs.Coded.{Coded, code_by, coded_bool, coded_list, coded_option, coded_ℕ, coded×, coded⊎}
use Rattle.std.specs.Prelude.{Bool, List, Option, ℕ, ◌≡◌, ◌⊎◌}
use Rattle.record_values.specs.Codes.{coded_mark, coded_pair}
use Rattle.record_values.specs.declared.pair.Mark.{Mark}
use Rattle.record_values.specs.declared.pair.Pair.{Pair}
use Rattle.online_index.specs.Value.{IndexValue, coded_index, coded_life}
use Rattle.online_model.specs.declared.life.Life.{Life}
use Rattle.online_model.specs.declared.note.Note.{Note}
use Rattle.online_model.specs.declared.note.Note.TheVariants.{EntryIs, LifeIs}

-- the index; how many entries it was made for; the notes that the host has not taken, in order; and whether it is being
-- redone, from its making to its reopening
pub record Seen : Type 0 where
  pub index : IndexValue
  pub most : ℕ
  pub waiting : List Note
  pub is_redone : Bool

-- ---- how the logic stores it
abbrev note_coded : Note → (Pair × Option Mark) ⊎ Life
note_coded (EntryIs p mark) = inl (p, mark)
note_coded (LifeIs life) = inr life

abbrev note_of : (Pair × Option Mark) ⊎ Life → Note
note_of (inl x) = EntryIs x.0 x.1
note_of (inr life) = LifeIs life

abbrev note_back : (n : Note) → note_of (note_coded n) ≡ n
note_back (EntryIs p mark) = refl
note_back (LifeIs life) = refl

abbrev pub coded_note : Coded Note
coded_note = code_by ((Pair × Option Mark) ⊎ Life) (coded⊎ (coded× coded_pair (coded_option coded_mark)) coded_life)
    note_coded note_of note_back

abbrev pub coded_seen : Coded Seen
coded_seen = code_by (IndexValue × (ℕ × (List Note × Bool)))
    (coded× coded_index (coded× coded_ℕ (coded× (coded_list coded_note) coded_bool)))
    (λ s. (s.index, (s.most, (s.waiting, s.is_redone))))
    (λ p. record { index = p.0; most = p.1.0; waiting = p.1.1.0; is_redone = p.1.1.1 })
    (λ _. refl)
