-- What C asks for, as an event of the engine.
use Rattle.std.specs.Prelude.{◌≡◌, ◌⊎◌, ◌<◌, ◌≤◌, ℕ, List, length}
use Rattle.record_values.specs.Values.{Place}
use Rattle.record_values.specs.declared.rid.TheConstants.{SLOTS_PER_PAGE}
use Rattle.record_values.specs.declared.key.TheConstants.{KEY_MAX, BODY_MAX}
use Rattle.restart.specs.declared.event.Event.{Event}
use Rattle.restart.specs.declared.event.Event.TheVariants.{Begin, Insert, Delete, Update, Step, Undo, End, Commit}
use Rattle.restart.specs.declared.event.Event.TheVariants.{Create, Drop, Build, Clean, Flush, Copy, Get, Find, Life}
use Rattle.nsf_c.specs.declared.asked.Asked.{Asked}

-- the place that is asked about
abbrev pub place_of : Asked → Place
place_of a = record { page = a.page; slot = a.slot }

-- whether what is asked for is this event, with this key and this body
abbrev pub Asks : Asked → List ℕ → List ℕ → Event → Type 0
Asks a key body Begin = a.kind ≡ 1
Asks a key body (Insert txn k b) = (a.kind ≡ 2) × (txn ≡ a.txn) × (k ≡ key) × (b ≡ body)
Asks a key body (Delete txn rid) = (a.kind ≡ 3) × (txn ≡ a.txn) × (rid ≡ place_of a)
Asks a key body (Update txn rid k b) = (a.kind ≡ 4) × (txn ≡ a.txn) × (rid ≡ place_of a) × (k ≡ key) × (b ≡ body)
Asks a key body (Step txn) = (a.kind ≡ 5) × (txn ≡ a.txn)
Asks a key body (Undo txn) = (a.kind ≡ 6) × (txn ≡ a.txn)
Asks a key body (End txn) = (a.kind ≡ 7) × (txn ≡ a.txn)
Asks a key body (Commit txn) = (a.kind ≡ 8) × (txn ≡ a.txn)
Asks a key body Create = a.kind ≡ 9
Asks a key body Drop = a.kind ≡ 17
Asks a key body Build = a.kind ≡ 10
Asks a key body Clean = a.kind ≡ 11
Asks a key body Flush = a.kind ≡ 12
Asks a key body Copy = a.kind ≡ 13
Asks a key body (Get rid) = (a.kind ≡ 14) × (rid ≡ place_of a)
Asks a key body (Find k) = (a.kind ≡ 15) × (k ≡ key)
Asks a key body Life = a.kind ≡ 16

-- whether this kind is asked of a transaction: to insert, delete, update, step, undo, end or commit
abbrev pub IsOfTxn : ℕ → Type 0
IsOfTxn k = (2 ≤ k) × (k ≤ 8)

-- whether it names a place
abbrev pub NamesPlace : ℕ → Type 0
NamesPlace k = (k ≡ 3) ⊎ (k ≡ 4) ⊎ (k ≡ 14)

-- whether a key comes with it
abbrev pub NamesKey : ℕ → Type 0
NamesKey k = (k ≡ 2) ⊎ (k ≡ 4) ⊎ (k ≡ 15)

-- whether a body comes with it
abbrev pub NamesBody : ℕ → Type 0
NamesBody k = (k ≡ 2) ⊎ (k ≡ 4)

-- whether no event has it
abbrev pub IsNoKind : ℕ → Type 0
IsNoKind k = (k < 1) ⊎ (17 < k)

-- it is asked of a transaction, and names none
abbrev pub LacksTxn : Asked → Type 0
LacksTxn a = IsOfTxn a.kind × (a.txn ≡ 0)

-- it names a place whose slot is on no page
abbrev pub LacksSlot : Asked → Type 0
LacksSlot a = NamesPlace a.kind × (SLOTS_PER_PAGE ≤ a.slot)

-- the key that comes with it is too long
abbrev pub HasLongKey : Asked → List ℕ → Type 0
HasLongKey a key = NamesKey a.kind × (KEY_MAX < length key)

-- why what is asked for is no event, by the number of the refusal: the first of these, in this order
abbrev pub IsBad : Asked → List ℕ → List ℕ → ℕ → Type 0
IsBad a key body n =
    ((n ≡ 9) × LacksTxn a)
    ⊎ ((n ≡ 10) × LacksSlot a × (¬ LacksTxn a))
    ⊎ ((n ≡ 14) × HasLongKey a key × (¬ LacksTxn a) × (¬ LacksSlot a))
    ⊎ ((n ≡ 15) × NamesBody a.kind × (BODY_MAX < length body) × (¬ LacksTxn a) × (¬ LacksSlot a) × (¬ HasLongKey a key))
    ⊎ ((n ≡ 24) × IsNoKind a.kind)
