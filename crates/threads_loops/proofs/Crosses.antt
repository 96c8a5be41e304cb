-- What the loops share may go to other threads. Rattle shows it of each type but those that reach the index's tree, whose nodes hold nodes.
use mathlib.Core.Path.{◌≡◌}
use denote.RattleType.{RattleType}
use denote.Builtin.{u64}
use denote.Hole.{as_row}
use denote.Struct.Field.{row_field}
use denote.Struct.Declared.{shape}
use denote.Model.Cut.{rejoined, split_one}
use denote.Model.Goals as goals
use denote.Model.Local.{Parts, rows}
use denote.Model.Marks.{tied_send}
use denote.Param.Send.{IsSend, IsSync, sendable, struct_send, struct_sync, recorded_send, recorded_sync, view_send}
use denote.Param.SendFields.{as_row_send, declared_send, variants_send}
use Rattle.std.below.std_heap.specs.contracts.Global as Heap
use Rattle.std.below.std_heap.specs.contracts.GlobalAllocator.TheImpl.{ghosts}
use Rattle.std.specs.contracts.boxed.Box as Box
use Rattle.std.specs.contracts.vec.Vec as Vec
use Rattle.std.proofs.Crossing.{crosses, frees, send, sync, Box-send, Vec-send, Deque-send}
use Rattle.std.proofs.option.Option.TheSendSync as option
use Rattle.record_values.specs.contracts.pair.Pair as Pair
use Rattle.record_values.proofs.pair.Pair.TheSendSync as pair
use Rattle.records.specs.contracts.record.Record as Record
use Rattle.records.proofs.record.Record.TheSendSync as one_record
use Rattle.nsf_core.below.model.proofs.life.Life.TheSendSync as life
use Rattle.nsf_core.below.node_parts.specs.contracts.Entry as Entry
use Rattle.nsf_core.below.node_parts.proofs.Entry.TheSendSync as entry
use Rattle.nsf_core.below.node_parts.specs.declared.Node.TheDeep.{the_members, member-Node}
use Rattle.nsf_core.below.node_parts.specs.declared.Node.TheDeep as deep
use Rattle.nsf_core.below.node_parts.specs.contracts.Node as Node
use Rattle.nsf_core.below.node_parts.specs.contracts.Node.TheKnot as knot
use Rattle.nsf_core.below.btree_node.specs.contracts.BTree as BTree
use Rattle.nsf_core.below.marked_index.specs.contracts.entries.Entries as Entries
use Rattle.nsf_core.below.marked_index.specs.contracts.index.MarkedIndex as MarkedIndex
use Rattle.nsf_core.below.heap_pages.proofs.heap.Heap.TheSendSync as pages
use Rattle.nsf_core.below.txn_table.proofs.table.TxnTable.TheSendSync as table
use Rattle.nsf_core.below.sorted_scan.proofs.scan.Scan.TheSendSync as scan
use Rattle.core_parts.specs.contracts.parts.CoreParts as CoreParts
use Rattle.nsf_core.specs.contracts.store.Core as Core
use Rattle.threads_flusher.below.threads_queue.specs.declared.memory.Memory as memory
use Rattle.threads_flusher.below.threads_queue.proofs.queue.Pusher.TheSendSync as pusher
use Rattle.threads_flusher.below.threads_queue.proofs.queue.RecordQueue.TheSendSync as queue
use Rattle.threads_sessions.specs.contracts.half.Half as Half
use Rattle.threads_sessions.specs.declared.keeping.Keeping as keeping
use Rattle.threads_sessions.proofs.half.Half.TheSendSync as half
use Rattle.threads_sessions.proofs.table.Registry.TheSendSync as registry
use Rattle.board.proofs.board.Board.TheSendSync as board
use Rattle.locked_core.specs.declared.group.Group as group
use Rattle.locked_core.specs.contracts.locked.Locked as Locked
use Rattle.sector_device.specs.declared.device.Device as device
use Rattle.threads_flusher.specs.contracts.part.FlushPart as FlushPart
use Rattle.threads_flusher.proofs.part.FlushPart.TheSendSync as flush_part
use Rattle.shared.specs.contracts.seat.Seat as Seat
use Rattle.shared.proofs.quiet.Quiet.TheSendSync as quiet
use Rattle.shared.proofs.seat.Seat.TheSendSync as seat
use Rattle.shared.specs.contracts.shared.Shared as Shared

abbrev H : RattleType
H = Heap.the_row

rejoined_send : (R : RattleType) (D : Type 0) (split : D → R.Denot) (join : R.Denot → D) (e : (d : D) → join (split d) ≡ d) → IsSend R
    → IsSend (rejoined R D split join e)
rejoined_send R D split join e s = recorded_send R D split (split_one R D split join e) s

-- one layer of the tree: a node is sent where the nodes in it are
module _ (p : Parts (knot.frame H ghosts)) (n : IsSend (rows (knot.frame H ghosts) p member-Node)) where
  child_send : IsSend (knot.at-Child H ghosts p)
  child_send =
      let h = rows (knot.frame H ghosts) p member-Node in
      rejoined_send (knot.layer-Child H ghosts h) _ (deep.split-Child H.Denot ghosts) (deep.join-Child H.Denot ghosts) (deep.joins-Child H.Denot ghosts)
      (declared_send (knot.type-Child H ghosts h) (
        as_row_send (row_field (as_row Pair.the_field)) (as_row_send Pair.the_field pair.the_field_send),
        (as_row_send (row_field (Box.the_row h H ghosts)) (Box-send h n), tt),
      ))

  parts_send : IsSend (knot.at-NodeParts H ghosts p)
  parts_send =
      let h = knot.at-Child H ghosts p in
      rejoined_send (knot.layer-NodeParts H ghosts h) _ (deep.split-NodeParts H.Denot ghosts) (deep.join-NodeParts H.Denot ghosts)
      (deep.joins-NodeParts H.Denot ghosts)
      (variants_send (knot.type-NodeParts H ghosts h) (
        (
          as_row_send (row_field (as_row (Vec.the_field Entry.the_row H ghosts)))
              (as_row_send (Vec.the_field Entry.the_row H ghosts) (Vec-send Entry.the_row entry.the_send)),
          tt,
        ),
        ((as_row_send (row_field (Vec.the_row h H ghosts)) (Vec-send h child_send), tt), tt),
      ))

  inside_send : IsSend (knot.at-Node H ghosts p)
  inside_send =
      let h = knot.at-NodeParts H ghosts p in
      rejoined_send (knot.layer-Node H ghosts h) _ (deep.split-Node H.Denot ghosts) (deep.join-Node H.Denot ghosts) (deep.joins-Node H.Denot ghosts)
      (declared_send (knot.type-Node H ghosts h) (as_row_send (row_field h) parts_send, tt))

  layer_send : IsSend (knot.view-Node H ghosts p)
  layer_send = view_send (knot.at-Node H ghosts p) _ _ (Node.the_view H ghosts) (Node.the_invariant H ghosts) inside_send

step_send : (p : Parts (knot.frame H ghosts)) → ((j : the_members) → IsSend (rows (knot.frame H ghosts) p j)) → (i : the_members)
    → IsSend (rows (knot.frame H ghosts) (knot.step H ghosts p) i)
step_send p all member-Node = goals.has_of (knot.frame H ghosts) goals.send (knot.step H ghosts p) member-Node
    (goals.part_has goals.send (knot.view-Node H ghosts p) (layer_send p (all member-Node)))

node_send : IsSend (Node.the_row H ghosts)
node_send = tied_send (knot.frame H ghosts) (knot.step H ghosts) (knot.sizes H ghosts) step_send member-Node

tree_send : IsSend (BTree.the_row H ghosts)
tree_send =
    let f : IsSend (BTree.TheInside.the_field H ghosts).row =
    struct_send (shape (BTree.TheInside.the_type H ghosts)) (send, (option.the_field_send _ (Box-send _ node_send), (search sendable depth 6, tt))) in
    let w : IsSend (BTree.TheInside.the_row H ghosts) =
    recorded_send (BTree.TheInside.the_field H ghosts).row _ _ (BTree.TheInside.the_type H ghosts).to_one f in
    search view_send depth 3

entries_send : IsSend (Entries.the_row H ghosts)
entries_send =
    let f : IsSend (Entries.TheInside.the_field H ghosts).row =
    struct_send (shape (Entries.TheInside.the_type H ghosts)) (tree_send, (search sendable depth 6, tt)) in
    let w : IsSend (Entries.TheInside.the_row H ghosts) =
    recorded_send (Entries.TheInside.the_field H ghosts).row _ _ (Entries.TheInside.the_type H ghosts).to_one f in
    search view_send depth 3

index_send : IsSend (MarkedIndex.the_row H ghosts)
index_send =
    let f : IsSend (MarkedIndex.TheInside.the_field H ghosts).row =
    struct_send (shape (MarkedIndex.TheInside.the_type H ghosts)) (entries_send, (search sendable depth 6, (search sendable depth 6, tt))) in
    let w : IsSend (MarkedIndex.TheInside.the_row H ghosts) =
    recorded_send (MarkedIndex.TheInside.the_field H ghosts).row _ _ (MarkedIndex.TheInside.the_type H ghosts).to_one f in
    search view_send depth 3

core_parts_send : IsSend (CoreParts.the_field H ghosts).row
core_parts_send =
    let word : IsSend u64 = search sendable depth 6 in
    struct_send (shape (CoreParts.the_type H ghosts)) (
      send,
      (
        pages.the_send H ghosts send frees,
        (
          table.the_send H ghosts send frees,
          (
            index_send,
            (
              life.the_field_send,
              (
                scan.the_send H ghosts send frees,
                (option.the_field_send _ pair.the_send, (word, (word, (word, (word, (Deque-send Record.the_row one_record.the_send, tt)))))),
              ),
            ),
          ),
        ),
      ),
    )

core_send : IsSend (Core.the_field H ghosts).row
core_send = struct_send (shape (Core.the_type H ghosts)) (core_parts_send, tt)

module _ (B : RattleType) (g : group.Ghosts B.Denot) (m : memory.Ghosts H.Denot) where
  locked_send : IsSend (Locked.the_row B H g m ghosts)
  locked_send = recorded_send (Locked.the_field B H g m ghosts).row _ _ (Locked.the_type B H g m ghosts).to_one (
      struct_send (shape (Locked.the_type B H g m ghosts)) (
        core_send,
        (pusher.the_send H m ghosts send frees, (Vec-send (Half.the_row H ghosts) (half.the_send H ghosts send frees), (search sendable depth 6, tt))),
      )
      )

  pub shared_sync : IsSync (Shared.the_row B H g m ghosts)
  shared_sync = let l = locked_send in
      recorded_sync (Shared.the_field B H g m ghosts).row _ _ (Shared.the_type B H g m ghosts).to_one (
      struct_sync (shape (Shared.the_type B H g m ghosts)) (
        search (crosses, sendable) depth 8,
        (
          queue.the_sync H m ghosts send sync frees,
          (
            registry.the_sync H ghosts send sync frees,
            (board.the_sync H ghosts send sync frees, (quiet.the_field_sync, (search sendable depth 6, tt))),
          ),
        ),
      )
      )

  pub seat_send : (K : RattleType) (k : keeping.Ghosts K.Denot) → IsSend (Seat.the_row B H K g m ghosts k)
  seat_send K k = seat.the_send B H K g m ghosts k send frees

  pub flush_send : (D : RattleType) (d : device.Ghosts D.Denot) → IsSend D → IsSend (FlushPart.the_row B D H g d m ghosts)
  flush_send D d s = flush_part.the_send B D H g d m ghosts s send frees
