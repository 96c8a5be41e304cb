-- What becomes of a whole script: what is printed, and the status of the program.
use Rattle.std.specs.Prelude.{◌≡◌, ◌⊎◌, ◌≤◌, ◌<◌, ◌+◌, ◌-◌, ◌^◌, ℕ, length, min, Option, Some, None, IfSome, List, true}
use Rattle.std.specs.Prelude.{Result, Ok, Err}
use Rattle.std.specs.Io.KnownBytes.{Appends}
use Rattle.std.specs.declared.alloc.Global.{Global}
use Rattle.record_values.specs.GeometryValue.{GeometryValue, IsGeometry, is_small, sectors_of}
use Rattle.record_values.specs.declared.error.Error.{Error}
use Rattle.record_values.specs.declared.error.Error.TheVariants.{NoMemory, DeviceFailed, DeviceTooSmall, BadGeometry}
use Rattle.record_values.specs.declared.error.Error.TheVariants.{BadScript}
use Rattle.sector_device.specs.FaultDisk.{which_of, made_of, fails_at_of}
use Rattle.sector_device.specs.declared.call.Fate.{Fate}
use Rattle.sector_device.specs.declared.fault.FaultDisk.{FaultDisk}
use Rattle.sector_device.specs.declared.fault.Which.TheVariants.{WritesAndSyncs}
use Rattle.sector_device.specs.declared.memory.MemDisk.{MemDisk}
use Rattle.flip_image.specs.declared.half.Half.TheVariants.{A}
use Rattle.flip_image.specs.Store.{IsFormatted, AreGatesClosed}
use Rattle.program_script.specs.Grammar.{lines, IsScript, IsFirstFault}
use Rattle.program_script.specs.declared.command.Command.{Command}
use Rattle.program_player.specs.Disk.{disk_past, LosesPower}
use Rattle.program_player.specs.Session.{disk_of, life_of, OpensOn, IsRefusedOn}
use Rattle.program_commands.specs.Dump.{dump_text}
use Rattle.program_player.specs.Runs.{Prints, RunsCommands}
use Rattle.program_arguments.specs.CommandLine.{Ask, AskForHelp, HaveFault}
use Rattle.program_values.specs.declared.answer.Answer.TheVariants as answer
use Rattle.program_values.specs.declared.given.Arguments.{Arguments}
use Rattle.program_player.specs.declared.session.Session.{Session}
use Rattle.program_player.specs.declared.session.End.{End}
use Rattle.program_player.specs.declared.session.End.TheVariants as end

-- the geometry that the arguments ask for
abbrev pub geometry_of : Arguments → GeometryValue
geometry_of arguments = record { pages = arguments.pages; entries = arguments.entries; slots = arguments.slots }

-- how many sectors the disk has: those asked for, or as many as the store needs
abbrev pub sectors_asked : Option ℕ → GeometryValue → ℕ
sectors_asked (Some sectors) geometry = sectors
sectors_asked None geometry = sectors_of geometry

-- A store of this geometry was made on a disk of so many sectors, and opened. The disk was to cut its write or sync of
-- this number short, from the opening on, or none at 0, and the session takes it for that.
pub record Starts (sectors : ℕ) (geometry : GeometryValue) (fails_at : ℕ) (session : Session) : Type 0 where
  pub disk : FaultDisk (MemDisk Global)
  pub formatted : IsFormatted geometry (disk_past disk).disk.content
  pub closed : AreGatesClosed geometry A (disk_past disk).disk.content
  pub size : length (disk_past disk).disk.content ≡ sectors
  pub counted : which_of disk ≡ WritesAndSyncs
  pub made : made_of disk ≡ 0
  pub fails_at_is : fails_at_of disk ≡ fails_at
  pub opened : OpensOn disk fails_at session

-- why no store was made and opened on a new disk of so many sectors
abbrev pub IsNoStart : ℕ → GeometryValue → Error → Type 0
IsNoStart sectors geometry e = ((e ≡ DeviceTooSmall) × (sectors < sectors_of geometry))
    ⊎ ((e ≡ DeviceFailed) × (sectors_of geometry ≤ sectors)) ⊎ (e ≡ NoMemory)

-- The number of the call that is cut short: 0 where none was asked for, and else so many more than such a session makes
-- as it is opened with none cut short.
abbrev pub IsCutAt : ℕ → GeometryValue → Option ℕ → ℕ → Type 0
IsCutAt sectors geometry None fails_at = fails_at ≡ 0
IsCutAt sectors geometry (Some stop) fails_at =
    (uncut : Session) × Starts sectors geometry 0 uncut × (fails_at ≡ min (made_of (disk_of uncut) + stop) (2 ^ 64 - 1))

-- A new store was opened, as the arguments ask for it.
abbrev pub StartsFor : Arguments → Session → Type 0
StartsFor arguments session =
    (fails_at : ℕ) × IsCutAt (sectors_asked arguments.sectors (geometry_of arguments))
    (geometry_of arguments) arguments.stop fails_at
    × Starts (sectors_asked arguments.sectors (geometry_of arguments)) (geometry_of arguments) fails_at session

-- it is a geometry of a small store
abbrev pub IsSmallGeometry : GeometryValue → Type 0
IsSmallGeometry g = IsGeometry g × (is_small g ≡ true)

-- Why no command was run, the first that fits: the text is no script, the arguments give no geometry of a small store,
-- or no store of it was made and opened. There may be no memory at each.
abbrev pub IsFault : Arguments → List ℕ → Error → Type 0
IsFault arguments text e =
    (e ≡ NoMemory)
    ⊎ ((index : ℕ) × (e ≡ BadScript (index + 1)) × IsFirstFault (lines text) index)
    ⊎ ((commands : List Command) × IsScript (lines text) commands
    × (((e ≡ BadGeometry) × ¬ IsSmallGeometry (geometry_of arguments))
    ⊎ (IsSmallGeometry (geometry_of arguments)
    × IsNoStart (sectors_asked arguments.sectors (geometry_of arguments)) (geometry_of arguments) e)))

-- the text is all that the input has, where that is known
abbrev pub IsWholeInput : Option (List ℕ) → List ℕ → Type 0
IsWholeInput input text = IfSome input (λ bytes. text ≡ bytes)

module _ {W : Type 0} (contents : W → Option (List ℕ)) where
  -- the refusal was printed, and the status says so
  abbrev pub IsRefused : Error → ℕ → W → W → Type 0
  IsRefused e status before after = Prints contents (answer.Refused e) before after × (status ≡ 1)

  -- How far the store's index is was printed, and then what the store holds.
  abbrev pub Shows : Session → W → W → Type 0
  Shows session before after = (between : W) × Prints contents (answer.Restart (life_of session)) before between
      × Appends (contents between) (contents after) (dump_text session.store)

  -- The store was opened again on this disk, and that was printed, and then what it holds. Or it was refused.
  abbrev pub ShowsLeft : FaultDisk (MemDisk Global) → ℕ → W → W → Type 0
  ShowsLeft disk status before after =
      ((session : Session) × OpensOn disk 0 session × Shows session before after × (status ≡ 0))
      ⊎ ((e : Error) × (given_back : FaultDisk (MemDisk Global)) × IsRefusedOn disk given_back e
      × IsRefused e status before after)

  -- That the session was stopped was printed. Then the power was lost, with this fate for every unsynced sector.
  abbrev pub IsStopped : Fate → FaultDisk (MemDisk Global) → ℕ → W → W → Type 0
  IsStopped fate disk status before after =
      (left : FaultDisk (MemDisk Global)) × (between : W) × Prints contents answer.Stopped before between
      × LosesPower fate 0 disk left
      × ShowsLeft left status between after

  -- what is printed behind the commands' own lines, by how they ended
  abbrev pub Ends : Arguments → Result (Unit {0}) End → ℕ → W → W → Type 0
  Ends arguments (Ok done) status before after = (status ≡ 0) × (after ≡ before)
  Ends arguments (Err (end.Refused e)) status before after = IsRefused e status before after
  Ends arguments (Err (end.Stopped disk)) status before after = IsStopped arguments.fate disk status before after

  -- The text's commands were run in turn over a new store, up to the last one, or to that at which the session ended.
  -- Or nothing was run, and why was printed.
  abbrev pub Plays : Arguments → List ℕ → ℕ → W → W → Type 0
  Plays arguments text status before after =
      ((e : Error) × IsFault arguments text e × IsRefused e status before after)
      ⊎ ((commands : List Command) × (session : Session) × (last : Result (Unit {0}) End) × (between : W)
      × IsScript (lines text) commands × StartsFor arguments session
      × RunsCommands contents commands session last before between × Ends arguments last status between after)

  -- The whole input was played as a script.
  abbrev pub PlaysInput : Arguments → Option (List ℕ) → ℕ → W → W → Type 0
  PlaysInput arguments input status before after =
      (text : List ℕ) × IsWholeInput input text × Plays arguments text status before after

  -- The words ask for these arguments, and the whole input was played under them. Or nothing of it was read: the words
  -- ask for help, which has the status 0, or 1 where it can't be written; or they have a fault, which has the status 2
  -- and prints nothing; or there was no memory for the arguments, and that was printed.
  abbrev pub RunsWords : {R : Type 0} → (R → Option (List ℕ)) → List (List ℕ) → R → R → ℕ → W → W → Type 0
  RunsWords remaining words input input' status before after =
      ((arguments : Arguments) × Ask words arguments × PlaysInput arguments (remaining input) status before after)
      ⊎ ((input' ≡ input)
      × ((AskForHelp words × (status ≤ 1)) ⊎ (HaveFault words × (status ≡ 2) × (after ≡ before))
      ⊎ IsRefused NoMemory status before after))
