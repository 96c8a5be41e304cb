-- What the state refuses, and what only want of memory may.
use Rattle.std.proofs.Common.{inl, inr, sym, ℕ, ◌∙◌, ◌≡◌, ◌≢◌}
use Rattle.record_values.specs.declared.error.Error.{Error}
use Rattle.record_values.specs.declared.error.Error.TheVariants.{Exhausted, NoIndex, IndexExists, IndexFull, NoMemory, NoSuchRow, NoSuchTxn, RowBusy}
use Rattle.record_values.specs.declared.error.Error.TheVariants.{TooManyChanges}
use Rattle.record_values.specs.declared.error.Error.TheVariants.{TxnsActive}
use Rattle.record_values.specs.Values.{Place}
use Rattle.core_parts.specs.View.{CoreValue}
use Rattle.core_parts.specs.Private.{IsUncreatable, IsUndroppable, HasNoRecord, IsUnable, IsUnchangeable, IsUnroomy, is_busy, is_full, is_missing, is_unable}
use Rattle.core_parts.specs.Private.{is_unknown, is_unroomy}

module _ (v : CoreValue) (e : Error) where
  pub unable_by_state : (t : ℕ) → IsUnable v t e → e ≢ NoMemory
  unable_by_state t (is_unknown none is) lack = let other : NoSuchTxn ≡ NoMemory = sym is ∙ lack in absurd cc
  unable_by_state t (is_full x here le is) lack = let other : TooManyChanges ≡ NoMemory = sym is ∙ lack in absurd cc

  pub unroomy_by_state : IsUnroomy v e → e ≢ NoMemory
  unroomy_by_state (inl why) lack = let other : IndexFull ≡ NoMemory = sym why.0 ∙ lack in absurd cc
  unroomy_by_state (inr why) lack = let other : Exhausted ≡ NoMemory = sym why.0 ∙ lack in absurd cc

  pub unchangeable_by_state : (t : ℕ) (r : Place) → IsUnchangeable v t r e → e ≢ NoMemory
  unchangeable_by_state t r (is_unable why) lack = unable_by_state t why lack
  unchangeable_by_state t r (is_busy a u held apart is) lack = let other : RowBusy ≡ NoMemory = sym is ∙ lack in absurd cc
  unchangeable_by_state t r (is_missing a mine none is) lack = let other : NoSuchRow ≡ NoMemory = sym is ∙ lack in absurd cc
  unchangeable_by_state t r (is_unroomy a mine old found why) lack = unroomy_by_state why lack

  pub unrecorded_by_state : (t : ℕ) → HasNoRecord v t e → e ≢ NoMemory
  unrecorded_by_state t (inl why) lack = let other : NoSuchTxn ≡ NoMemory = sym why.0 ∙ lack in absurd cc
  unrecorded_by_state t (inr why) lack = let other : Exhausted ≡ NoMemory = sym why.0 ∙ lack in absurd cc

  pub uncreatable_by_state : IsUncreatable v e → e ≢ NoMemory
  uncreatable_by_state (inl why) lack = let other : IndexExists ≡ NoMemory = sym why.0 ∙ lack in absurd cc
  uncreatable_by_state (inr why) lack = let other : TxnsActive ≡ NoMemory = sym why.0 ∙ lack in absurd cc

  pub undroppable_by_state : IsUndroppable v e → e ≢ NoMemory
  undroppable_by_state (inl why) lack = let other : NoIndex ≡ NoMemory = sym why.0 ∙ lack in absurd cc
  undroppable_by_state (inr why) lack = let other : TxnsActive ≡ NoMemory = sym why.0 ∙ lack in absurd cc
