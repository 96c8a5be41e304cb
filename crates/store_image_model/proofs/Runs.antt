-- The records of a run by their numbers, redone over a copied image.
use Rattle.std.proofs.Common.{◌≡◌, ℕ, ◌+◌, ◌-◌, ◌≤◌, List, ◌++◌, length, take, refl, sym, ap, subst, ◌∙◌, arith, length-take}
use Rattle.std.proofs.lemmas.List.{take-append-drop}
use Rattle.std.proofs.Math.Seq.{take-add}
use Rattle.records.specs.RecordValue.{RecordValue}
use Rattle.model.specs.Cells.{Cells, cells_after}
use Rattle.model.specs.Following.{AreFollowing}
use Rattle.model.specs.Images.{IsCopied}
use Rattle.model.proofs.CellsLaws.{cells_after-append}
use Rattle.model.proofs.FollowingLaws.{following_back, following-take}
use Rattle.model.proofs.ImageLaws.{redone_image, image_follows}
use Rattle.store_image_model.specs.Run.{Run, IsRun, IsCopiedFrom, end_of, cells_at, records_to, records_above, records_between}

pub copy_of_cells : (cells : Cells) (log : List RecordValue) → IsCopied cells log 0 cells
copy_of_cells cells log = record { pending = refl; life = refl; rows = λ q. (0, omega arith, refl); entries = λ pair. (0, omega arith, refl) }

pub copy_of_run : (run : Run) (base : ℕ) → IsCopiedFrom run base base (cells_at run base)
copy_of_run run base =
    let none : 0 ≡ base - base = omega arith in
    subst (λ m. IsCopied (cells_at run base) (records_above run base) m (cells_at run base)) none (copy_of_cells (cells_at run base) (records_above run base))

-- the records up to n are those up to m and those between
records_split : (run : Run) (m n : ℕ) → run.last ≤ m → m ≤ n → records_to run n ≡ records_to run m ++ records_between run m n
records_split run m n low rise =
    ap (λ k. take k run.records) (let e : n - run.last ≡ (m - run.last) + (n - m) = omega arith in e)
    ∙ take-add (m - run.last) (n - m) run.records

pub reached : (run : Run) (base n : ℕ) → run.last ≤ base → base ≤ n → cells_after (cells_at run base) (records_between run base n) ≡ cells_at run n
reached run base n low rise = sym (ap (cells_after run.cells) (records_split run base n low rise)
    ∙ cells_after-append run.cells (records_to run base) (records_between run base n))

pub redone : (run : Run) (base to n : ℕ) (image : Cells) → IsCopiedFrom run base to image → run.last ≤ base → base ≤ n → to ≤ n
    → cells_after image (records_between run base n) ≡ cells_at run n
redone run base to n image copied low rise late =
    redone_image (cells_at run base) (records_above run base) (to - base) image copied (n - base) (omega arith) ∙ reached run base n low rise

-- the records above a number follow what the ones before it left
above_follow : (run : Run) (base n : ℕ) → IsRun run → run.last ≤ base → base ≤ end_of run
    → AreFollowing run.geometry.pages base (cells_at run base) (records_between run base n)
above_follow run base n is low high =
    let size : length (records_to run base) ≡ base - run.last = omega (arith, length-take (base - run.last) run.records) in
    let number : run.last + length (records_to run base) ≡ base = omega (arith, size) in
    let whole : AreFollowing run.geometry.pages run.last run.cells (records_to run base ++ records_above run base) =
    subst (AreFollowing run.geometry.pages run.last run.cells) (sym (take-append-drop (base - run.last) run.records)) is.following in
    let rest = following_back run.geometry.pages run.last run.cells (records_to run base) (records_above run base) whole in
    following-take run.geometry.pages base (cells_at run base) (records_above run base) (n - base)
    (subst (λ k. AreFollowing run.geometry.pages k (cells_at run base) (records_above run base)) number rest)

pub redone_following : (run : Run) (base to n : ℕ) (image : Cells) → IsCopiedFrom run base to image → IsRun run → run.last ≤ base → base ≤ end_of run
    → AreFollowing run.geometry.pages base image (records_between run base n)
redone_following run base to n image copied is low high =
    image_follows run.geometry.pages base (cells_at run base) (records_above run base) (to - base) image copied (records_between run base n)
    (above_follow run base n is low high)
