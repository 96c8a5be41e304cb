-- Facts that have one proof.
use Rattle.std.proofs.Common.{◌≡◌, ℕ, Option}
use Rattle.std.proofs.Props.{props}
use Rattle.std.specs.Coded.{Coded, Coded-set, codes}
use Rattle.model.specs.declared.write.Write.{Write}
use Rattle.record_values.specs.declared.row.Row.{Row}
use Rattle.threads_sessions.specs.Values.{ActiveValue, SessionValue}
use Rattle.shared.specs.Changed.{IsUnderWay}

sessions_coded : Coded SessionValue
sessions_coded = hlevel codes

writes_coded : Coded (Option Write)
writes_coded = hlevel codes

rows_coded : Coded (Option (Option Row))
rows_coded = hlevel codes

actives_coded : Coded (Option ActiveValue)
actives_coded = hlevel codes

pub active_single : (a b : Option ActiveValue) → IsProp (a ≡ b)
active_single = Coded-set actives_coded

pub rows_single : (a b : Option (Option Row)) → IsProp (a ≡ b)
rows_single = Coded-set rows_coded

pub under_way_single : (old : SessionValue) (txn : ℕ) (w : Write) (new : SessionValue) → IsProp (IsUnderWay old txn w new)
under_way_single old txn w new = hlevel (Coded-set sessions_coded, Coded-set writes_coded, Coded-set rows_coded, props)
