use Rattle.std.proofs.Common.{List, [], ap, append-nil, sym, ◌++◌, ◌∙◌, ◌∷◌, ℕ}
use Rattle.entry_scan.proofs.KeyOrder.{key_cmp, shorter_before}
use Rattle.entry_scan.proofs.range.behind_key.Goals as goal
use Rattle.entry_scan.proofs.range.behind_key.Goals.{then-bytes-lt-KEY_MAX, else-bytes-lt-KEY_MAX+in_ok-next}

pub returns : goal.returns
returns c =
    let key : List ℕ = c.args.key.now in
    elim c.if-bytes-lt-KEY_MAX.branch [
      | then-bytes-lt-KEY_MAX w ↦
          ap (key_cmp key) (w.next-is ∙ w.key_with-next.ensures ∙ ap (λ (bytes : List ℕ). bytes ++ 0 ∷ []) c.as_slice-bytes.ensures.value)
          ∙ shorter_before key 0
      | else-bytes-lt-KEY_MAX+in_ok-next w ↦
          ap (key_cmp key) w.next-is
          ∙ ap (λ (bytes : List ℕ). key_cmp bytes w.in_ok-next.next)
          (sym c.as_slice-bytes.ensures.value ∙ sym (append-nil c.as_slice-bytes.result.now))
          ∙ w.in_ok-next.ensures []
    ]
