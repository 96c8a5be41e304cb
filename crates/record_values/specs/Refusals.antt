-- The numbers and the names of the refusals.
use Rattle.std.specs.Prelude.{ℕ, List, codes}
use Rattle.record_values.specs.declared.error.Error.{Error}
use Rattle.record_values.specs.declared.error.Error.TheVariants.{NoMemory, DeviceFailed, NotFormatted, Damaged}
use Rattle.record_values.specs.declared.error.Error.TheVariants.{DeviceTooSmall, BadGeometry, TooManyTxns}
use Rattle.record_values.specs.declared.error.Error.TheVariants.{TooManyChanges}
use Rattle.record_values.specs.declared.error.Error.TheVariants.{NoSuchTxn, NoSuchRow, RowBusy, HeapFull, IndexFull}
use Rattle.record_values.specs.declared.error.Error.TheVariants.{KeyTooLong, BodyTooLong, TxnsActive, IndexExists}
use Rattle.record_values.specs.declared.error.Error.TheVariants.{NoIndex}
use Rattle.record_values.specs.declared.error.Error.TheVariants.{NotBuilt, Stopped, Exhausted, BadScript, OldVersion}

-- the number of each refusal
abbrev pub number_of : Error → ℕ
number_of NoMemory = 1
number_of DeviceFailed = 2
number_of NotFormatted = 3
number_of (Damaged sector) = 4
number_of DeviceTooSmall = 5
number_of BadGeometry = 6
number_of TooManyTxns = 7
number_of TooManyChanges = 8
number_of NoSuchTxn = 9
number_of NoSuchRow = 10
number_of RowBusy = 11
number_of HeapFull = 12
number_of IndexFull = 13
number_of KeyTooLong = 14
number_of BodyTooLong = 15
number_of TxnsActive = 16
number_of IndexExists = 17
number_of NoIndex = 18
number_of NotBuilt = 19
number_of Stopped = 20
number_of Exhausted = 21
number_of (BadScript line) = 22
number_of OldVersion = 23

-- the name of each refusal, as bytes
abbrev pub name_of : Error → List ℕ
name_of NoMemory = codes "NoMemory"
name_of DeviceFailed = codes "DeviceFailed"
name_of NotFormatted = codes "NotFormatted"
name_of (Damaged sector) = codes "Damaged"
name_of DeviceTooSmall = codes "DeviceTooSmall"
name_of BadGeometry = codes "BadGeometry"
name_of TooManyTxns = codes "TooManyTxns"
name_of TooManyChanges = codes "TooManyChanges"
name_of NoSuchTxn = codes "NoSuchTxn"
name_of NoSuchRow = codes "NoSuchRow"
name_of RowBusy = codes "RowBusy"
name_of HeapFull = codes "HeapFull"
name_of IndexFull = codes "IndexFull"
name_of KeyTooLong = codes "KeyTooLong"
name_of BodyTooLong = codes "BodyTooLong"
name_of TxnsActive = codes "TxnsActive"
name_of IndexExists = codes "IndexExists"
name_of NoIndex = codes "NoIndex"
name_of NotBuilt = codes "NotBuilt"
name_of Stopped = codes "Stopped"
name_of Exhausted = codes "Exhausted"
name_of (BadScript line) = codes "BadScript"
name_of OldVersion = codes "OldVersion"
