-- Records are put one after another.
use Rattle.std.proofs.Common.{◌≡◌, ℕ, ◌+◌, ◌-◌, ◌<◌, ◌≤◌, List, [], ◌∷◌, ◌++◌, length, take, drop, get_or, sym, ◌∙◌, ap}
use Rattle.std.proofs.Common.{arith, Option}
use Rattle.std.proofs.lemmas.List.{append-nil, append_assoc, drop-drop, drop_all, drop_at, length-append, length-drop, take_at, take_more}
use borrow.Rule.Slice.PartMut.{put_mid}
use Rattle.online_index.specs.Pieces.{IsSaved}
use Rattle.online_index.specs.declared.pieces.Saved.{Saved}
use Rattle.online_index.specs.declared.pieces.Saved.TheVariants as saved
use Rattle.record_values.specs.Entries.{Index}
use Rattle.record_values.specs.declared.pair.Pair.{Pair}
use Rattle.online_model.specs.declared.note.Note.{Note}
use Rattle.online_notes.specs.Spelling.{bytes_of}
use Rattle.nsf_index_c.specs.Recording.{IsSpelled, frame_of, frames_of}

-- the records of one note more
pub frames_push : (ns : List Note) (n : Note) → frames_of (ns ++ n ∷ []) ≡ frames_of ns ++ frame_of n
frames_push [] n = append-nil (frame_of n)
frames_push (m ∷ ns) n = ap (λ bs. frame_of m ++ bs) (frames_push ns n) ∙ sym (append_assoc (frame_of m) (frames_of ns) (frame_of n))

-- one record more
pub frame_more : (ns : List Note) (i : ℕ) (n : Note) (used len : ℕ) (old bytes record_ rest part : List ℕ) → i < length ns
    → n ≡ get_or ns i n → IsSpelled (take i ns) used old bytes → record_ ≡ bytes_of n → len ≡ length record_
    → rest ≡ drop used bytes → part ≡ (length record_ ∷ record_) ++ drop (length record_ + 1) rest
    → IsSpelled (take (i + 1) ns) (used + (len + 1)) old (put_mid used (length bytes - used) bytes part)
frame_more ns i n used len old bytes record_ rest part inside here spelled is long after put =
    let before = frames_of (take i ns) in
    let next : take (i + 1) ns ≡ take i ns ++ n ∷ [] = take_more ns i n inside ∙ ap (λ x. take i ns ++ x ∷ []) (sym here) in
    let frames : frames_of (take (i + 1) ns) ≡ before ++ frame_of n = ap frames_of next ∙ frames_push (take i ns) n in
    let front : take used bytes ≡ before = ap (take used) spelled.front ∙ take_at before (drop used old) used (sym spelled.number) in
    let tail : drop used bytes ≡ drop used old = ap (drop used) spelled.front ∙ drop_at before (drop used old) used (sym spelled.number) in
    let end : drop (length bytes - used) (drop used bytes) ≡ [] =
    drop_all (length bytes - used) (drop used bytes) (omega (arith, length-drop used bytes)) in
    let one : part ≡ frame_of n ++ drop (used + (len + 1)) old =
    put
    ∙ ap (λ bs. (length record_ ∷ record_) ++ bs)
    (ap (drop (length record_ + 1)) (after ∙ tail) ∙ drop-drop (length record_ + 1) used old
    ∙ ap (λ k. drop (used + (k + 1)) old) (sym long))
    ∙ ap (λ r. (length r ∷ r) ++ drop (used + (len + 1)) old) is in
    record {
      number = omega (arith, ap length frames, length-append before (frame_of n), spelled.number, long, ap length is);
      front = ap (λ a. a ++ (part ++ drop (length bytes - used) (drop used bytes))) front ∙ ap (λ b. before ++ (part ++ b)) end
          ∙ ap (λ b. before ++ b) (append-nil part ∙ one) ∙ sym (append_assoc before (frame_of n) (drop (used + (len + 1)) old))
          ∙ ap (λ a. a ++ drop (used + (len + 1)) old) (sym frames);
    }

-- the bytes are as many as before
pub as_many : (ns : List Note) (used : ℕ) (old new : List ℕ) → IsSpelled ns used old new → used ≤ length old → length new ≡ length old
as_many ns used old new is inside =
    omega (arith, ap length is.front, length-append (frames_of ns) (drop used old), length-drop used old, is.number, inside)

-- a piece has no more notes than it may have
pub at_most : (m : Index) (above : Option Pair) (most : ℕ) (notes : List Note) (s : Saved) → IsSaved m above most notes s
    → length notes ≤ most
at_most m above most notes (saved.GoOn end) is = omega (arith, is.1)
at_most m above most notes saved.All is = omega (arith, is.0)
