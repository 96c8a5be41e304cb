-- What a crash leaves of a store that threads write may be opened again.
use Rattle.std.proofs.Common.{◌≡◌, ◌++◌, ℕ, List, refl, sym, subst, take}
use Rattle.std.proofs.Math.Logic.{∥∥₁_map}
use Rattle.record_values.specs.GeometryValue.{GeometryValue}
use Rattle.records.specs.RecordValue.{RecordValue}
use Rattle.model.specs.Given.{Given, given_after}
use Rattle.core_model.proofs.ReplyLaws.{served_recovers}
use Rattle.core_model.specs.Histories.{CanOpen, Opened}
use Rattle.sector_device.specs.Disk.{CrashState}
use Rattle.store_reader.specs.Contents.{Gives}
use Rattle.restart.specs.Store.{over}
use Rattle.threads_flusher.proofs.Openings.{can_open_whole}
use Rattle.threads_flusher.specs.Part.{GivesBeginning}
use Rattle.shared.specs.Seats.{SeatValue}
use Rattle.threads_lifetime.specs.Closing.{GivesSome}
use Rattle.threads_lifetime.specs.Openings.{IsOpenable, Opens, OpensSoundly}

-- an image gives one thing, of one geometry
abbrev pub AnswersOne : Type 0
AnswersOne = ((image : CrashState) (g h : GeometryValue) (x y : Given) → Gives image g x → Gives image h y → g ≡ h)
    × ((image : CrashState) (g h : GeometryValue) (x y : Given) → Gives image g x → Gives image h y → x ≡ y)

-- an image that gives something sound opens soundly
pub gives_soundly : (image : CrashState) (g : GeometryValue) (given : Given) → Gives image g given → CanOpen (over g given) → OpensSoundly image
gives_soundly image g given gives can = record {
  opened = over g given;
  opens = record { geometry = g; given = given; gives = gives; opened = refl };
  sound = can;
}

module _ (one : AnswersOne) where
  -- what a store opens with that opens soundly is sound
  pub sound_opening : (image : CrashState) (o : Opened) → Opens image o → OpensSoundly image → CanOpen o
  sound_opening image o opens soundly =
      let sizes : soundly.opens.geometry ≡ opens.geometry =
      one.0 image soundly.opens.geometry opens.geometry soundly.opens.given opens.given soundly.opens.gives opens.gives in
      let same : soundly.opens.given ≡ opens.given =
      one.1 image soundly.opens.geometry opens.geometry soundly.opens.given opens.given soundly.opens.gives opens.gives in
      subst CanOpen (sym opens.opened)
      (subst (λ (x : Given). CanOpen (over opens.geometry x)) same
      (subst (λ (h : GeometryValue). CanOpen (over h soundly.opens.given)) sizes
      (subst CanOpen soundly.opens.opened soundly.sound)))

  pub sound_whole : (image : CrashState) (o : Opened) → IsOpenable image → Opens image o → CanOpen o
  sound_whole image o openable opens = can_open_whole o (∥∥₁_map openable (sound_opening image o opens))

module _ (o : Opened) (g : GeometryValue) (image : CrashState) (pages : g.pages ≡ o.pages) (places : g.entries ≡ o.places) where
  again : (given : Given) → Gives image g given → CanOpen (record o { given = given }) → OpensSoundly image
  again given gives can = gives_soundly image g given gives
      (subst (λ (n : ℕ). CanOpen (record { given = given; pages = g.pages; places = n })) (sym places)
      (subst (λ (n : ℕ). CanOpen (record { given = given; pages = n; places = o.places })) (sym pages) can))

  pub flushed_again : (handed : List RecordValue) (floor : ℕ) → CanOpen o → GivesBeginning o g handed floor image → IsOpenable image
  flushed_again handed floor can left = ∣ again (given_after o.given (take left.count handed)) left.gives (left.opens can) ∣₁

  pub ended_again : (seats : List SeatValue) (popped : List RecordValue) (floor : ℕ) → ∥ GivesSome o g seats popped floor image ∥₁ → IsOpenable image
  ended_again seats popped floor some = ∥∥₁_map some by
    where
      by : GivesSome o g seats popped floor image → OpensSoundly image
      by left =
          let so = left.shared.register.kept.replied in
          let made : List RecordValue = left.pushed ++ left.core.outbox in
          again (given_after o.given (take left.count made)) left.gives
          (served_recovers o left.shared.opens made left.shared.register.kept.calls so.state so.standing so.served left.count left.most).1
