-- What is left where the threads give up, and where no store was opened for them.
use Rattle.std.proofs.Common.{◌≡◌, ◌∙◌, ◌+◌, ◌-◌, ◌++◌, ◌≤◌, ◌∷◌, [], All, Bool, List, ap, arith, cond, false, length, length-append, length-take}
use Rattle.std.proofs.Common.{map, refl, subst, sym, take, true, ℕ}
use Rattle.std.proofs.Math.Logic.{∥∥₁_map}
use Rattle.std.proofs.lemmas.List.{length-map, take-append-le, take-take}
use Rattle.std.proofs.lemmas.List.Elements.{All-nil}
use Rattle.std.specs.Prelude.{nat_le}
use Rattle.record_values.specs.GeometryValue.{GeometryValue}
use Rattle.records.specs.RecordValue.{RecordValue}
use Rattle.model.specs.Given.{given_after}
use Rattle.model.specs.Table.{Table, applied}
use Rattle.board.specs.Views.{nothing_seen}
use Rattle.core_model.specs.Histories.{Opened}
use Rattle.core_parts.specs.View.{CoreValue}
use Rattle.sector_device.specs.DevicePast.{DevicePast}
use Rattle.sector_device.specs.Disk.{CrashState}
use Rattle.threads_sessions.specs.Values.{CommitValue, SessionValue}
use Rattle.threads_register.specs.History.{commits_up_to, with_commits}
use Rattle.threads_register.specs.Register.{Commits}
use Rattle.locked_core.specs.Names.{IsShared, no_table}
use Rattle.threads_flusher.specs.Part.{GivesBeginning}
use Rattle.shared.specs.Seats.{SeatValue}
use Rattle.threads_lifetime.specs.Closing.{table_with, up_to}
use Rattle.threads_lifetime.specs.Gathered.{sessions_of}
use Rattle.threads_lifetime.specs.Openings.{IsOpenedOver, IsGivenBack, StoreValue}
use Rattle.program_team.specs.Kept.{HasTicket, KeepsTold, LeavesOpened, told_ticket}
use Rattle.program_team.specs.declared.writer.Acknowledged.{Acknowledged}

-- ---- commits without their seats

abbrev commits_in : Commits → List CommitValue
commits_in commits = map (λ (c : ℕ × CommitValue). c.1) commits

with_all : (table : Table) (commits : Commits) → table_with table (commits_in commits) ≡ with_commits table commits
with_all table [] = refl
with_all table (c ∷ cs) = with_all (applied table c.1.writes) cs

first_commits : (n : ℕ) (commits : Commits) → up_to n (commits_in commits) ≡ commits_in (commits_up_to n commits)
first_commits n [] = refl
first_commits n (c ∷ cs) = by (nat_le c.1.ticket.«record» n) (first_commits n cs)
  where
    by : (b : Bool) → up_to n (commits_in cs) ≡ commits_in (commits_up_to n cs)
        → cond b (c.1 ∷ up_to n (commits_in cs)) (up_to n (commits_in cs)) ≡ commits_in (cond b (c ∷ commits_up_to n cs) (commits_up_to n cs))
    by true same = ap (λ (l : List CommitValue). c.1 ∷ l) same
    by false same = same

-- ---- seats that have the sessions

abbrev seat_with : SessionValue → SeatValue
seat_with session = record { number = 0; session = session; sight = nothing_seen no_table }

sessions_back : (book : List SessionValue) → sessions_of (map seat_with book) ≡ book
sessions_back [] = refl
sessions_back (session ∷ rest) = ap (λ (book : List SessionValue). session ∷ book) (sessions_back rest)

-- ---- what a crash leaves

-- of the records that were popped, the first of those that were pushed, some make of the table what the commits make
pub left_opened : (o : Opened) (g : GeometryValue) (core : CoreValue) (pushed : List RecordValue) (book : List SessionValue) (handed held : List RecordValue)
    (floor : ℕ) (image : CrashState) → handed ++ held ≡ take (length (handed ++ held)) pushed → IsShared o core pushed book
    → GivesBeginning o g handed floor image → LeavesOpened o image
left_opened o g core pushed book handed held floor image popped under left =
    let seats : List SeatValue = map seat_with book in
    let shared : IsShared o core pushed (sessions_of seats) = subst (λ (b : List SessionValue). IsShared o core pushed b) (sym (sessions_back book)) under in
    let commits : Commits = shared.register.commits.commits in
    let made : List RecordValue = pushed ++ core.outbox in
    let all : ℕ = length (handed ++ held) in
    let within : all ≤ length pushed = omega (arith, ap length popped, length-take (length (handed ++ held)) pushed) in
    let few : left.count ≤ all = omega (arith, left.most, length-append handed held) in
    let first : take left.count handed ≡ take left.count made =
    sym (take-append-le left.count handed held left.most)
    ∙ (ap (take left.count) popped ∙ (take-take left.count all pushed few ∙ sym (take-append-le left.count pushed core.outbox (omega (arith, few, within))))) in
    let so_many : (o.given.last + left.count) - o.given.last ≡ left.count = omega arith in
    record {
      geometry = g;
      given = given_after o.given (take left.count handed);
      gives = left.gives;
      seats = seats;
      core = core;
      pushed = pushed;
      shared = shared;
      commits = commits_in commits;
      gathered = record {
        all = record {
          commits = commits;
          numbered = shared.register.commits.numbered;
          counted = length-map commits (λ (c : ℕ × CommitValue). c.1);
          by_seats = shared.register.commits.by_seats;
          in_sessions = shared.register.commits.in_sessions;
        };
        by_number = refl;
      };
      number = o.given.last + left.count;
      table =
          ap (λ (rs : List RecordValue). (given_after o.given rs).table) first
          ∙ (subst (λ (n : ℕ). (given_after o.given (take n made)).table ≡ with_commits o.given.table (commits_up_to (o.given.last + left.count) commits))
          so_many (shared.tables.recovered (o.given.last + left.count) (omega arith))
          ∙ (sym (with_all o.given.table (commits_up_to (o.given.last + left.count) commits))
          ∙ ap (table_with o.given.table) (sym (first_commits (o.given.last + left.count) commits))));
    }

-- where nothing is told that is all
pub keeps_none : (o : Opened) (image : CrashState) (told : List Acknowledged) → told ≡ [] → ∥ LeavesOpened o image ∥₁ → ∥ KeepsTold o image told ∥₁
keeps_none o image told none left = ∥∥₁_map left (λ (leaves : LeavesOpened o image).
    let P : Acknowledged → Type 0 = λ made. HasTicket (λ (c : CommitValue). c.ticket) (up_to leaves.number leaves.commits) (told_ticket made) in
    record { leaves = leaves; each = subst (λ (ts : List Acknowledged). All P ts) (sym none) (All-nil P) })

-- ---- no store was opened

pub given_back : {D : Type 0} (past_of : D → DevicePast) (failures : D → ℕ) (before : D) (count : ℕ) (s : StoreValue D) (after : D)
    → IsOpenedOver past_of failures before count s → after ≡ s.device → IsGivenBack past_of failures before after
given_back {D = D} past_of failures before count s after is same = subst (λ (d : D). IsGivenBack past_of failures before d) (sym same) (record {
  opened = s.site.opened;
  opens = is.opened;
  sound = is.sound;
  device = is.device;
  synced = is.synced;
  quiet = is.quiet;
})
