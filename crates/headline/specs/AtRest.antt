-- A store at rest, and an engine that is opened over it.
use Rattle.std.specs.Prelude.{◌≡◌, false, ℕ, [], None, Some}
use Rattle.record_values.specs.GeometryValue.{GeometryValue}
use Rattle.model.specs.Given.{Given}
use Rattle.model.specs.Table.{Table}
use Rattle.record_values.specs.Entries.{Index}
use Rattle.model.specs.declared.life.Life.{Life}
use Rattle.core_model.specs.Histories.{CanOpen, highest_of}
use Rattle.store_writer.specs.Parts.{halves_of, image_of}
use Rattle.store_writer.specs.declared.copying.Copying.TheVariants.{Idle}
use Rattle.restart.specs.declared.parts.EngineParts.{EngineParts}
use Rattle.restart.specs.Parts.{copying_of, core_of, device_of, has_failed, horizon_of, log_of, unwritten, writer_of}
use Rattle.restart.specs.Store.{over}

-- A store at rest, between two of its days: its rows, its entries, marked ones too, how far its index is, the number of
-- the last record that it keeps, and its device's count of failures.
pub record AtRest : Type 0 where
  pub rows : Table
  pub entries : Index
  pub life : Life
  pub last : ℕ
  pub failed : ℕ

-- what was given, on a device with this count
abbrev pub resting : Given → ℕ → AtRest
resting given failed = record {
  rows = given.table;
  entries = given.entries;
  life = given.life;
  last = given.last;
  failed = failed;
}

-- what a store at rest gives
abbrev pub given_of : AtRest → Given
given_of store = record { table = store.rows; entries = store.entries; life = store.life; last = store.last }

-- The engine was opened over the store at rest. Its core has the rows, an index that fits them, and no transaction, and
-- has done nothing yet. Its records go on behind the last one that was kept. All records are synced, the log is empty,
-- no image is under way, and no call of the device has failed in the opening.
pub record IsOpenedOver {D M : Type 0} (failures : D → ℕ) (geometry : GeometryValue) (store : AtRest)
    (engine : EngineParts D M) : Type 0 where
  pub given : Given
  pub rests : store ≡ resting given store.failed
  pub opens : CanOpen (over geometry given)
  pub core : core_of engine ≡ record {
    heap = record { pages = geometry.pages; rows = given.table };
    txns = record { active = []; begun = 0 };
    index = record { entries = given.entries; pledged = 0; capacity = geometry.entries };
    life = given.life;
    scan = record { pages = geometry.pages; last = highest_of given.life; wanted = Some 0; waiting = [] };
    cleaned = None;
    last = given.last;
    tried = 0;
    attempts = 0;
    commits = 0;
    outbox = [];
  }
  pub horizon : horizon_of engine ≡ given.last
  pub waiting : unwritten engine ≡ []
  pub size : engine.geometry ≡ geometry
  pub halves : (halves_of (writer_of engine)).geometry ≡ geometry
  pub log : (log_of engine).open_slots ≡ 0
  pub image : image_of (writer_of engine) ≡ None
  pub copying : copying_of engine ≡ Idle
  pub sound : has_failed engine ≡ false
  pub quiet : failures (device_of engine) ≡ store.failed
