use Rattle.std.proofs.Common.{◌≡◌, ℕ, suc, List, [], ◌++◌, length, Option, Some, sym, ap, subst, ◌∙◌, append-nil, append_assoc, arith}
use Rattle.std.specs.FinMap as map
use Rattle.std.specs.Io.KnownBytes.{Appends}
use Rattle.std.specs.List.{flat_map}
use Rattle.std.proofs.KnownBytes.{Appends-nil, Appends-trans}
use Rattle.btree_node.specs.Above.{IsLeastAbove}
use Rattle.program_commands.specs.Store.{entries_of}
use Rattle.program_commands.proofs.Entries.{Entry, later, later_all, line_of_entry, none_left, one_left}
use Rattle.program_commands.proofs.store.Store.dump_entries.Goals as goal

pub loop-entry-init : goal.loop-entry-init
loop-entry-init g c = (
  [],
  Appends-nil (g.W.Write.contents c.args.output.now),
  ap (λ (es : List Entry). flat_map line_of_entry es) (later_all (map.entries (entries_of c.args.self.now))),
)

pub loop-entry-preserved : goal.loop-entry-preserved
loop-entry-preserved g c =
    let contents = g.W.Write.contents in
    let so_far = c.loop-entry.invariant in
    let es = map.entries (entries_of c.args.self.now) in
    let entry : Entry = c.in-Some.entry in
    let least = subst (λ (o : Option Entry). IsLeastAbove (entries_of c.args.self.now) c.loop-entry.last o) c.in-Some.is c.entry_above.ensures in
    let left = one_left (entries_of c.args.self.now) c.loop-entry.last entry.0 entry.1 least in (
      so_far.0 ++ line_of_entry entry,
      Appends-trans (contents c.args.output.now) (contents c.loop-entry.output) (contents c.dump_entry.new.output) so_far.0
          (line_of_entry entry) so_far.1 c.in_ok-dump_entry.ensures,
      append_assoc so_far.0 (line_of_entry entry) (flat_map line_of_entry (later (Some entry.0) es))
          ∙ ap (λ (rest : List Entry). so_far.0 ++ flat_map line_of_entry rest) (sym left)
          ∙ so_far.2,
    )

pub loop-entry-smaller : goal.loop-entry-smaller
loop-entry-smaller g c =
    let es = map.entries (entries_of c.args.self.now) in
    let entry : Entry = c.in-Some.entry in
    let least = subst (λ (o : Option Entry). IsLeastAbove (entries_of c.args.self.now) c.loop-entry.last o) c.in-Some.is c.entry_above.ensures in
    let left : length (later c.loop-entry.last es) ≡ suc (length (later (Some entry.0) es)) =
    ap length (one_left (entries_of c.args.self.now) c.loop-entry.last entry.0 entry.1 least) in
    omega (arith, left)

pub returns : goal.returns
returns g c =
    let so_far = c.loop-entry.invariant in
    let es = map.entries (entries_of c.args.self.now) in
    let least = subst (λ (o : Option Entry). IsLeastAbove (entries_of c.args.self.now) c.loop-entry.last o) c.in_default.is c.entry_above.ensures in
    let none = none_left (entries_of c.args.self.now) c.loop-entry.last least in
    let whole = sym (append-nil so_far.0) ∙ ap (λ (rest : List Entry). so_far.0 ++ flat_map line_of_entry rest) (sym none) ∙ so_far.2 in
    subst (λ (bytes : List ℕ). Appends (g.W.Write.contents c.args.output.now) (g.W.Write.contents c.loop-entry.output) bytes) whole so_far.1
