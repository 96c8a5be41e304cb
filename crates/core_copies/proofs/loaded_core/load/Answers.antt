use Rattle.std.proofs.Common.{ap, arith, subst, sym, Ok, Err, Result, inl, inr, refl, ℕ, ◌∙◌, ◌≡◌, ◌<◌, ◌≤◌, ◌↔◌}
use Rattle.std.proofs.lemmas.Result.{err_from_is_err_and}
use Rattle.std.specs.FinMap as map
use Rattle.record_values.specs.declared.error.Error.{Error}
use Rattle.record_values.specs.declared.error.Error.TheVariants.{IndexFull, NoMemory}
use Rattle.record_values.specs.GeometryValue.{GeometryValue}
use Rattle.model.specs.Following.{IsWithin}
use Rattle.store_reader.specs.Restored.{given_in}
use Rattle.core_model.specs.Histories.{opened}
use Rattle.core_model.specs.Events.{standing_at}
use Rattle.nsf_core.specs.Loading.{IsLifeInside, life_loaded}
use Rattle.core_parts.specs.Moves.{fresh}
use Rattle.nsf_core.specs.Value.{value_of}
use Rattle.core_parts.specs.View.{CoreValue, IsState}
use Rattle.core_copies.specs.Loaded.{store_of, with_entries, with_rows}
use Rattle.core_copies.proofs.Loading.{stands_for}
use Rattle.core_copies.proofs.loaded_core.load.Goals as goal

-- where there is room, no memory is not a full index
has_room : {T : Type 0} (e : Error) (most len n : ℕ) → e ≡ NoMemory → len ≡ n → len ≤ most → ◌≡◌ {A = Result T Error} (Err e) (Err IndexFull) ↔ (most < n)
has_room e most len n is counted room = (λ full. absurd (cc), λ more. absurd (omega arith))

is_made : {T : Type 0} (x : T) (most len n : ℕ) → len ≡ n → len ≤ most → ◌≡◌ {A = Result T Error} (Ok x) (Err IndexFull) ↔ (most < n)
is_made x most len n counted room = (λ full. absurd (cc), λ more. absurd (omega arith))

pub load_rows-requires-clause-within : goal.load_rows-requires-clause-within
load_rows-requires-clause-within g c = subst (λ (v : CoreValue). IsWithin v.heap.pages c.args.found.now.rows)
    (sym c.in_ok-core.ensures.made) c.args.found.now.inside.rows

pub load_life-requires-clause-inside : goal.load_life-requires-clause-inside
load_life-requires-clause-inside g c =
    let f = c.args.found.now in
    let rows : value_of c.load_rows.new.core ≡ with_rows (fresh f.geometry f.last) f.rows = c.in_ok-load_rows.ensures.ok
    ∙ ap (λ (v : CoreValue). with_rows v f.rows) c.in_ok-core.ensures.made in
    let entries : value_of c.load_entries.new.core ≡ with_entries (with_rows (fresh f.geometry f.last) f.rows) f.entries = c.in_ok-load_entries.ensures.ok
    ∙ ap (λ (v : CoreValue). with_entries v f.entries) rows in
    subst (λ (v : CoreValue). IsLifeInside v f.life) (sym entries) f.inside.life

pub returns-clause-made : goal.returns-clause-made
returns-clause-made g c =
    let f = c.args.found.now in
    let rows : value_of c.load_rows.new.core ≡ with_rows (fresh f.geometry f.last) f.rows = c.in_ok-load_rows.ensures.ok
    ∙ ap (λ (v : CoreValue). with_rows v f.rows) c.in_ok-core.ensures.made in
    let entries : value_of c.load_entries.new.core ≡ with_entries (with_rows (fresh f.geometry f.last) f.rows) f.entries = c.in_ok-load_entries.ensures.ok
    ∙ ap (λ (v : CoreValue). with_entries v f.entries) rows in
    c.load_life.ensures ∙ ap (λ (v : CoreValue). life_loaded v f.life) entries

pub returns-clause-opened : goal.returns-clause-opened
returns-clause-opened g c =
    let f = c.args.found.now in
    let most = ap (λ (x : GeometryValue). x.entries) c.geometry.view_is in
    let room : map.len f.entries ≤ f.geometry.entries = omega (arith, c.len.ensures, most, c.if-len-geometry.false) in
    subst (λ (v : CoreValue). IsState v (opened (store_of f)) (standing_at f.last)) (sym (returns-clause-made g c))
    (stands_for f.geometry (given_in f) f.inside room f.numbered)

pub returns-clause-full : goal.returns-clause-full
returns-clause-full g c = rw (← ap (λ (x : GeometryValue). x.entries) c.geometry.view_is) (is_made _ _ _ _ c.len.ensures c.if-len-geometry.false)

pub returns-in_err-core : goal.returns-in_err-core
returns-in_err-core g c =
    let p = err_from_is_err_and c.from_residual.result c.from_residual.ensures.1 in
    let is = p.2 ∙ c.in_err-core.ensures.no_memory in
    rw p.1 (record {
      made = tt;
      opened = tt;
      full = rw (← ap (λ (x : GeometryValue). x.entries) c.geometry.view_is) (has_room _ _ _ _ is c.len.ensures c.if-len-geometry.false);
      refused = inr is;
    })

pub returns-in_err-load_rows : goal.returns-in_err-load_rows
returns-in_err-load_rows g c =
    let p = err_from_is_err_and c.from_residual-in_err-load_rows.result c.from_residual-in_err-load_rows.ensures.1 in
    let is = p.2 ∙ c.in_err-load_rows.ensures.no_memory in
    rw p.1 (record {
      made = tt;
      opened = tt;
      full = rw (← ap (λ (x : GeometryValue). x.entries) c.geometry.view_is) (has_room _ _ _ _ is c.len.ensures c.if-len-geometry.false);
      refused = inr is;
    })

pub returns-in_err-load_entries : goal.returns-in_err-load_entries
returns-in_err-load_entries g c =
    let p = err_from_is_err_and c.from_residual-in_err-load_entries.result c.from_residual-in_err-load_entries.ensures.1 in
    let is = p.2 ∙ c.in_err-load_entries.ensures.no_memory in
    rw p.1 (record {
      made = tt;
      opened = tt;
      full = rw (← ap (λ (x : GeometryValue). x.entries) c.geometry.view_is) (has_room _ _ _ _ is c.len.ensures c.if-len-geometry.false);
      refused = inr is;
    })

pub returns-then-len-geometry : goal.returns-then-len-geometry
returns-then-len-geometry g c =
    let most = ap (λ (x : GeometryValue). x.entries) c.geometry.view_is in
    record {
      made = tt;
      opened = tt;
      full = (λ _. omega (arith, most, c.len.ensures, c.if-len-geometry.true), λ _. refl);
      refused = inl refl;
    }
