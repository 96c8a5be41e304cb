-- What was handed in is a beginning of what was pushed.
use Rattle.std.proofs.Common.{◌≡◌, ◌+◌, ◌≤◌, ℕ, List, [], ◌++◌, length, take, Result, Ok, Err, OnOk, OnErr, refl, sym, ap, ◌∙◌, subst, arith, length-append}
use Rattle.std.proofs.Common.{length-take}
use Rattle.std.proofs.lemmas.List.{take-append-le, take-take, take_all, take_at}
use Rattle.records.specs.RecordValue.{RecordValue}
use Rattle.record_values.specs.declared.error.Error.{Error}
use Rattle.threads_flusher.specs.Part.{FlushValue, popped_by}

-- it is the first of these
abbrev pub Begins : (handed pushed : List RecordValue) → Type 0
Begins handed pushed = handed ≡ take (length handed) pushed

-- without those that are held
front_begins : (handed held pushed : List RecordValue) → Begins (handed ++ held) pushed → Begins handed pushed
front_begins handed held pushed begins =
    sym (take_at handed held (length handed) refl) ∙ (ap (take (length handed)) begins
    ∙ take-take (length handed) (length (handed ++ held)) pushed (omega (arith, length-append handed held)))

-- as records are handed in, or refused
pub begins_by : {D A T : Type 0} (old new : FlushValue D A) (pushed now : List RecordValue) (result : Result T Error)
    → OnOk result ((new.handed ≡ popped_by old) × (new.held ≡ [])) → OnErr result ((new.handed ≡ old.handed) × (new.held ≡ old.held))
    → Begins (popped_by old) pushed → now ≡ pushed
    → Begins new.handed now
begins_by old new pushed now (Ok x) ok err begins same =
    subst (Begins new.handed) (sym same) (subst (λ (l : List RecordValue). Begins l pushed) (sym ok.0) begins)
begins_by old new pushed now (Err e) ok err begins same =
    subst (Begins new.handed) (sym same) (subst (λ (l : List RecordValue). Begins l pushed) (sym err.0) (front_begins old.handed old.held pushed begins))

-- it stays so as more are pushed
pub begins_more : (handed pushed now more : List RecordValue) → Begins handed pushed → now ≡ pushed ++ more → Begins handed now
begins_more handed pushed now more begins grown =
    let few : length handed ≤ length pushed = omega (arith, ap length begins, length-take (length handed) pushed) in
    begins ∙ (sym (take-append-le (length handed) pushed more few) ∙ ap (take (length handed)) (sym grown))

-- and of the same ones
pub begins_under : (handed pushed now : List RecordValue) → now ≡ pushed → Begins handed pushed → Begins handed now
begins_under handed pushed now same begins = subst (Begins handed) (sym same) begins

pub begins_as : (handed new pushed : List RecordValue) → new ≡ handed → Begins handed pushed → Begins new pushed
begins_as handed new pushed same begins = subst (λ (l : List RecordValue). Begins l pushed) (sym same) begins

-- as many as were made are all that were pushed, where none waits
pub begins_all : (handed pushed outbox : List RecordValue) (from last : ℕ) → Begins handed pushed → outbox ≡ [] → last ≡ from + length (pushed ++ outbox)
    → from + length handed ≡ last → handed ≡ pushed
begins_all handed pushed outbox from last begins none all so_many = begins
    ∙ take_all (length handed) pushed (omega (arith, all, so_many, length-append pushed outbox, ap length none))
