-- An engine that is taken apart.
use Rattle.std.proofs.Common.{◌≡◌, ℕ, List, ◌++◌, sym, ◌∙◌, ap, subst, arith}
use Rattle.records.specs.RecordValue.{RecordValue}
use Rattle.core_model.specs.Events.{Standing, standing_at}
use Rattle.core_model.specs.Histories.{opened}
use Rattle.store_image_model.specs.Run.{Run}
use Rattle.core_parts.specs.View.{CoreValue, IsState}
use Rattle.sector_device.specs.DevicePast.{DevicePast}
use Rattle.store_writer.specs.Parts as writer
use Rattle.store_writer.specs.Writer.{IsWriter}
use Rattle.store_writer.specs.declared.writer.Writer.{Writer}
use Rattle.restart.specs.declared.parts.EngineParts.{EngineParts}
use Rattle.restart.specs.Parted.{ArePartsOf, LeavesParts}
use Rattle.restart.specs.Parts.{core_of, writer_of}
use Rattle.restart.specs.Store.{IsAt, Past, last_made, over, run_of}
use Rattle.restart.specs.History.{core_calls}
use Rattle.restart.proofs.Told.{stands_over}

pub leaves_parts : {D M : Type 0} (past_of : D → DevicePast) (engine : EngineParts D M) (core : CoreValue) (records : List RecordValue) (w : Writer D M)
    → ArePartsOf engine core records w
    → ((run : Run) (handed : ℕ) → IsWriter past_of run handed (writer_of engine) → IsWriter past_of run handed w)
    → (past : Past M) → IsAt past_of past engine → LeavesParts past_of past core records w
leaves_parts past_of engine core records w parts forgets past is = record {
  opens = is.opens;
  made = is.made;
  handed = is.handed;
  state = is.state;
  standing = is.standing;
  served = is.served;
  shown = subst (λ (v : CoreValue). IsState v is.state is.standing) (sym parts.core-is) is.stands.shown;
  log = is.stands.log;
  lists = is.stands.lists;
  many =
      let told : is.standing.made ≡ last_made past = ap (λ (x : Standing). x.made)
      (stands_over (opened (over past.geometry past.given)) (standing_at past.given.last)
      (core_calls past.events past.replies) is.made is.state is.standing is.served.served) in
      omega (arith, told, is.served.number);
  writer = forgets (run_of past is.made) is.handed is.stands.writer;
  rest = is.stands.rest
      ∙ ap (λ (l : List RecordValue). l ++ (core_of engine).outbox) (sym parts.records-are)
      ∙ ap (λ (v : CoreValue). records ++ v.outbox) (sym parts.core-is);
  safe = omega (arith, is.safe, ap (λ (x : Writer _ _). writer.synced_of x) parts.writer-is);
}
