use Rattle.std.proofs.Common.{◌≡◌, inl, inr, refl, arith, sym, ap, ◌∙◌, subst, All}
use Rattle.std.proofs.lemmas.Bool.{false≢true, iff_false}
use Rattle.record_values.specs.GeometryValue.{GeometryValue, IsGeometry}
use Rattle.flip_image.specs.Store.{number_of, CanBeIn, IsSuperblockIn, HasOlderNumber}
use Rattle.flip_image.proofs.Spelled.{title_there, title_told, numbers_told, geometry_is, same_limits, superblock_read, older_there, older_told}
use Rattle.flip_image.proofs.superblock.geometry_of.Goals as goal

pub returns-then-title-ne-TITLE-clause-err : goal.returns-then-title-ne-TITLE-clause-err
returns-then-title-ne-TITLE-clause-err c = inl (
  refl,
  λ there.
      c.if-title-ne-TITLE.true (title_told c.args.bytes.now _ c.read_front-title.result.0 (omega arith) c.read_front-title.ensures there),
)

pub returns-then-is_older-clause-err : goal.returns-then-is_older-clause-err
returns-then-is_older-clause-err c =
    let f = c.read_front-title.result in
    inr (inl (
      refl,
      title_there c.args.bytes.now _ f.0 c.if-title-ne-TITLE.false c.read_front-title.ensures,
      older_there c.args.version c.args.bytes.now _ f.0 f.1 c.read_front-title.ensures (c.is_older.ensures.0 c.if-is_older.true),
    ))

pub returns-then-not-is_supported-clause-err : goal.returns-then-not-is_supported-clause-err
returns-then-not-is_supported-clause-err c =
    let v = c.args.version in
    let f = c.read_front-title.result in
    let not_older : ¬ HasOlderNumber v c.args.bytes.now =
    (λ older. iff_false c.is_older.ensures c.if-is_older.false (older_told v c.args.bytes.now _ f.0 f.1 (omega arith) c.read_front-title.ensures older)) in
    let none : (g : GeometryValue) → IsGeometry g → ¬ IsSuperblockIn v g c.args.bytes.now = (λ g limits is.
    let are = numbers_told v g c.args.bytes.now _ f.0 f.1 f.2 f.3 f.4 (omega arith) (omega arith) (omega arith) (omega arith)
    (omega arith) c.read_front-title.ensures limits is in
    let found = sym (geometry_is v g f.1 f.2 f.3 f.4 are) ∙ sym c.in-Ok.ensures.ok in
    false≢true (sym c.if-not-is_supported.true ∙ c.is_supported.ensures.1 (
      (are.version ∙ ap (number_of v) found, subst (CanBeIn v) found is.can),
      subst (All (λ b. b ≡ 0)) (sym c.split_at.ensures.back) is.rest,
    ))) in
    inr (inr (refl, title_there c.args.bytes.now _ f.0 c.if-title-ne-TITLE.false c.read_front-title.ensures, not_older, none))

pub returns-in_default-clause-err : goal.returns-in_default-clause-err
returns-in_default-clause-err c =
    let v = c.args.version in
    let f = c.read_front-title.result in
    let not_older : ¬ HasOlderNumber v c.args.bytes.now =
    (λ older. iff_false c.is_older.ensures c.if-is_older.false (older_told v c.args.bytes.now _ f.0 f.1 (omega arith) c.read_front-title.ensures older)) in
    let none : (g : GeometryValue) → IsGeometry g → ¬ IsSuperblockIn v g c.args.bytes.now = (λ g limits is.
    let are = numbers_told v g c.args.bytes.now _ f.0 f.1 f.2 f.3 f.4 (omega arith) (omega arith) (omega arith) (omega arith)
    (omega arith) c.read_front-title.ensures limits is in
    false≢true (c.in_default.ensures.within.1 (same_limits v g f.1 f.2 f.3 f.4 are limits))) in
    inr (inr (refl, title_there c.args.bytes.now _ f.0 c.if-title-ne-TITLE.false c.read_front-title.ensures, not_older, none))

pub returns-clause-ok : goal.returns-clause-ok
returns-clause-ok c =
    let f = c.read_front-title.result in
    superblock_read c.args.version c.args.bytes.now f.0 f.1 f.2 f.3 f.4 c.in-Ok.geometry c.read_front-title.ensures c.if-title-ne-TITLE.false
    (c.is_supported.ensures.0 c.if-not-is_supported.false).0.0 (c.is_supported.ensures.0 c.if-not-is_supported.false).0.1 c.in-Ok.ensures.ok
    (subst (All (λ b. b ≡ 0)) c.split_at.ensures.back (c.is_supported.ensures.0 c.if-not-is_supported.false).1)
