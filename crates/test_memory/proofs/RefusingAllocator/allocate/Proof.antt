-- It asks the handle, and refuses where there is none. Assumes `Logic`.
use mathlib.Core.Path.{◌≡◌, refl}
use mathlib.Core.Bool.{true, false}
use Prim.Native.Nat.{ℕ, ◌<◌, ◌^◌}
use mathlib.Core.List.{List, [], ◌∷◌}
use seplogic.Ra.Ura.{Ura}
use mir.Syntax.{Ty, Args, Fn, a_type, w64, dnil, dcons}
use mir.Val.{Val, vint, vptr}
use mir.MapTy.{inst_fn}
use base.Logic.{SProp, ent}
use base.Fml.{Lft, Share, ftrue, flft}
use prog.Memory.{Memory, size, align, capped}
use prog.Routine.{Routine}
use prog.Wp.{WpFn, Tables}
use types.Logic.{Logic}
use contract.BorrowLft.{◌⊑◌, ⊑_trans}
use contract.Monad.{Fun, fact}
use contract.Running.{tables, tables_of}
use sound.WpLaws.{fm_of, WpFn-mono}
use types.Run.{stop, no_more, and_then, of_opd, returns, enter}
use denote.Exit.{yes}
use denote.RattleType.{owns}
use denote.Ref.{Bor, shr_vals}
use denote.Param.{bounded, param}
use denote.Plain.{uint_vals, uint_Tells}
use denote.Signature.{Slot, plain, types_at}
use denote.Steps.{heard, nothing}
use denote.Triple.Clauses.{Ended, Clauses}
use denote.Triple.Spec.{triple_of}
use denote.Triple.Statement.{Triple}
use denote.Triple.Table.{entered}
use denote.Triple.Walked.{Stays, stay_dropped, walk_of, ends_at, walked, Goes-dropped, walk_Meets}
use types.Kit.{‵, raw, ◌⊛◌, later, ◌$◌, ◌∵◌, !, qed, move, keep, use0, use1, use2, split, split3, join, fsplit, fjoin, suffices, await, done}
use types.ByLocal.{alloc_all, pass_all, free_all, look_at, get, sets, lands_as}
use denote.RawPtr.{block_ptr}
use denote.Builtin.{usize, RefOf}
use denote.Triple.Call.{calls_at}
use Rattle.std.specs.declared.result.Result.TheVariants.{Ok, Err}
use Rattle.std.proofs.alloc.Calls.{Al, Answer, answer_val, Answer-typed, Answer-Ok, Answer-err, takes_key, Takes, at_takes, Answered, Takes-goes, Takes-gives}
use Rattle.std.proofs.alloc.Calls.{answers, token}
use Rattle.test_memory.specs.contracts.RefusingAllocator.allocate as F
use Rattle.test_memory.specs.contracts.RefusingAllocator.allocate.Key as key
use Rattle.test_memory.proofs.RefusingAllocator.allocate.Statement as stated
use Rattle.test_memory.proofs.RefusingAllocator.allocate.Code as code
use mathlib.Core.Path.{sym, subst}
use lib.Dec.{T}
use mir.Syntax.{place}
use mir.Val.{has_ty, WT}
use denote.Param.{layout}
use types.Part.{whole, agg}
use types.Run.{lit}
use types.ByLocal.{holding}
use Rattle.std.specs.Allocator.{block_if_ok}
use types.Kit.{by, Item, Seq, Go, ⋆, lands, at_ret, given, learn, some, pick, rewrite, use2, any_q, Post as After}
use types.Run.{fld, first, exec, switches_on}
use types.Match.{vrt, in_variant}
use types.ByLocal.{get_in, get_tag, lands_as, lands_last, sets_last, env}
use prog.Wp.{Env, Wp, after_seq, at_return}
use denote.Triple.Call.{calls_at, calls_at_last}
use Rattle.std.specs.declared.option.Option.{Option}
use Rattle.std.specs.declared.option.Option.TheVariants.{None, Some}
use Rattle.std.proofs.alloc.Shapes.{after, front, arm_body}
use Rattle.test_memory.specs.contracts.Refusing as L
use Rattle.test_memory.proofs.Served.{lent_key, Lends, at_lent, Told, shown_val, seen_if, Shown-typed, lent_goes, lent_Gives}
use Rattle.test_memory.proofs.Refusing.served.Met as lent_met

module _ (Z : Al) where
  abbrev args : Args
  args = bounded (a_type ∷ []) (Z.row, tt) (dcons Z.d (dcons Z.drops dnil))

  abbrev here : Fn
  here = inst_fn args code.function

  abbrev self : Slot 2
  self = RefOf (0 ∷ []) tt (plain (λ _. L.the_row (param 0 Z.row))) (λ _. tt)

  abbrev ended : Ended
  ended = F.ended Z.row Z.g Z.d Z.drops

  abbrev stayed : Stays ended.signature.params ended.kept
  stayed = (stay_dropped self yes, (stay_dropped (plain (λ _. usize)) yes, (stay_dropped (plain (λ _. usize)) yes, tt)))

module _ (Z : Al) {M : Type 1} {𝓤 : Ura M} (𝓛 : Logic 𝓤) (at_mem : Memory → SProp 𝓤) (run : Routine
    → Fun 𝓤) (𝓣 : Tables 𝓤 𝓛.H) (tk : Triple 𝓤 (𝓣.C (takes_key Z)) (Takes Z 𝓛 at_mem run))
    (ln : Triple 𝓤 (𝓣.C (lent_key Z)) (Lends Z 𝓛 at_mem run)) where
  open 𝓛 use {H}

  abbrev held : Clauses 𝓤 (ended Z)
  held = F.clauses Z.row Z.g Z.d Z.drops 𝓛 at_mem run

  module _ (κ ρ : Lft) (q s : Share) (out : κ ⊑ ρ) (r : Bor (L.the_row Z.row).Denot) (n a : ℕ) (τ : Ty) where
    abbrev bound : (walk_of 𝓛 (ended Z) (stayed Z) held).Ghost
    bound = (((κ, (ρ, tt)), (q, (s, tt)), (out, tt), (r, (n, (a, tt))), (shr_vals r, (vint w64 n ∷ [], (vint w64 a ∷ [], tt)))), τ)

    abbrev vs : List Val
    vs = vptr r.ref_ptr.0 r.ref_ptr.1 ∷ vint w64 n ∷ vint w64 a ∷ []

    abbrev Said : Type 0
    Said = (capped (size τ) ≡ n) × (capped (align τ) ≡ a)

    abbrev Post : Val → SProp 𝓤
    Post = (walk_of 𝓛 (ended Z) (stayed Z) held).post bound

    exits : (v : Val) (res : Answer.Denot)
        → ent 𝓤 (⋆ 𝓛 (‵ (Answer.own_val res (v ∷ [])) ∷ ‵ (block_if_ok (token Z r.now.inner) τ res) ∷ ‵ (flft κ q) ∷ (‵ (flft ρ s) ⊛ ‵ ftrue) ∷ [])) (Post v)
    exits v res = qed 𝓛 (‵ (Answer.own_val res (v ∷ [])) ∷ ‵ (block_if_ok (token Z r.now.inner) τ res) ∷ ‵ (flft κ q) ∷ (‵ (flft ρ s) ⊛ ‵ ftrue) ∷ []) ∵
        suffices ! _ (ends_at 𝓛 (ended Z) (stayed Z) held bound v res (tt, (tt, (tt, tt))) (tt, (tt, (tt, tt)))) $
        nothing ! $ nothing ! $ fjoin ! $ nothing ! $ fjoin ! $ nothing ! $ fjoin ! $ join ! $ move ! (2 ∷ 3 ∷ []) $ join ! $ join ! $ done !

    module _ (fn : n < 2 ^ 64) (fa : a < 2 ^ 64) (le : ρ ⊑ Z.row.lives) (said : Said) (l : ℕ → ℕ) (u : Val) where
      abbrev En : Env 𝓤 H
      En = env (here Z).locals l

      abbrev Then : After 𝓤 H
      Then = any_q (after_seq 𝓤 H (Wp 𝓤 H 𝓣.C 𝓣.Λ En (after 2 (here Z).body) (at_return 𝓤 H En Post)) (at_return 𝓤 H En Post))

      abbrev had : Option (Bor Z.row.Denot) → List (Item 𝓤)
      had f = given ((u ≡ shown_val f) × Told Z 𝓛 at_mem run κ ρ q s out r f) (‵ (seen_if Z κ f) ⊛ ‵ (flft κ q) ⊛ ‵ (flft ρ s) ⊛ ‵ ftrue)
          ∷ holding 𝓛 En ((3, vint w64 a) ∷ (2, vint w64 n) ∷ (1, vptr r.ref_ptr.0 r.ref_ptr.1) ∷ [])

      shown : (f : Option (Bor Z.row.Denot)) → Seq (Go {0}) 𝓛 (had f) (lands 𝓣.C 𝓣.Λ En (place 5 []) u (after 1 (here Z).body) (at_ret En Post))
      shown None =
          learn ! (λ k. split3 ! $ lands_as ! k.0 refl (Shown-typed Z None) $
          first ! $ switches_on ! (get_tag ! (vrt ! refl (fld ! refl (stop !))) (whole !)) $ exec ! 𝓣.C 𝓣.Λ En
          (arm_body 1 (front (after 1 (here Z).body))) Then $
          sets ! (agg ! (no_more !)) refl (tt, tt) $ sets_last ! (agg ! (and_then ! (lit ! tt) (and_then ! (get ! refl) (no_more !)))) refl
          (Answer-typed false 0 0) $
          exec ! 𝓣.C 𝓣.Λ En (after 2 (here Z).body) (at_ret En Post) $ sets ! (of_opd ! (get ! refl)) refl (Answer-typed false 0 0) $ returns !
          (look_at ! 0 refl) $ free_all ! refl $
          use0 𝓛 (‵ (Answer.own_val (Err (record {})) (answer_val false 0 0 ∷ []))) (Answer-err 𝓛) $ by ! (exits (answer_val false 0 0) (Err (record {}))))
      shown (Some g) =
          let y : (Takes Z 𝓛 at_mem run).Ghost = at_takes Z 𝓛 at_mem run κ q g.ref_ptr g.now n a τ in
          learn ! (λ k. split3 ! $ lands_as ! k.0 refl (Shown-typed Z (Some g)) $
          first ! $ switches_on ! (get_tag ! (vrt ! refl (fld ! refl (stop !))) (whole !)) $ exec ! 𝓣.C 𝓣.Λ En
          (arm_body 0 (front (after 1 (here Z).body))) Then $
          sets ! (of_opd ! (get_in ! (vrt ! refl (fld ! refl (stop !))) (in_variant ! 1 0 refl refl (whole !)))) refl (tt, tt) $
          use2 𝓛 (raw ((Takes Z 𝓛 at_mem run).pre y)) (Takes-goes Z 𝓛 at_mem run κ q g.ref_ptr g.now (⊑_trans κ ρ Z.row.lives out le) n a τ said.0 said.1 fn fa)
          $
          calls_at_last ! (fm_of 𝓤 H 𝓛.laws 𝓣) (Takes Z 𝓛 at_mem run) tk y
          (and_then ! (get ! refl) (and_then ! (get ! refl) (and_then ! (get ! refl) (no_more !)))) (λ v.
          use1 𝓛 (later (raw (Answered Z 𝓛 at_mem run g.now τ v) ⊛ ‵ (flft κ q)))
          (Takes-gives Z 𝓛 at_mem run κ q g.ref_ptr g.now n a τ v) $ await ! tt $ split ! $
          answers Z ! at_mem run g.now τ v
          (λ b o e. rewrite ! 1 (λ (z : Z.row.Denot). ‵ (token Z z τ (block_ptr b o))) k.1 refl $ fjoin ! $
          lands_last ! refl (subst (λ (z : Val). T (has_ty (layout Answer) z) × WT z) (sym e) (Answer-typed true b o)) $
          exec ! 𝓣.C 𝓣.Λ En (after 2 (here Z).body) (at_ret En Post) $ sets ! (of_opd ! (get ! refl)) refl
          (subst (λ (z : Val). T (has_ty (layout Answer) z) × WT z) (sym e) (Answer-typed true b o)) $ returns ! (look_at ! 0 refl) $ free_all ! refl $
          use0 𝓛 (‵ (Answer.own_val (Ok (block_ptr b o)) (answer_val true b o ∷ []))) (Answer-Ok 𝓛 b o) $ rewrite ! 0 (λ (z : Val).
          ‵ (Answer.own_val (Ok (block_ptr b o)) (z ∷ []))) (sym e) refl $ by ! (exits v (Ok (block_ptr b o))))
          (λ e. nothing ! $ lands_last ! refl (subst (λ (z : Val). T (has_ty (layout Answer) z) × WT z) (sym e) (Answer-typed false 0 0)) $
          exec ! 𝓣.C 𝓣.Λ En (after 2 (here Z).body) (at_ret En Post) $ sets ! (of_opd ! (get ! refl)) refl
          (subst (λ (z : Val). T (has_ty (layout Answer) z) × WT z) (sym e) (Answer-typed false 0 0)) $ returns ! (look_at ! 0 refl) $ free_all ! refl $
          use0 𝓛 (‵ (Answer.own_val (Err (record {})) (answer_val false 0 0 ∷ []))) (Answer-err 𝓛) $ rewrite ! 0 (λ (z : Val).
          ‵ (Answer.own_val (Err (record {})) (z ∷ []))) (sym e) refl $ by ! (exits v (Err (record {}))))))

    walk : n < 2 ^ 64 → a < 2 ^ 64 → ent 𝓤 ((walk_of 𝓛 (ended Z) (stayed Z) held).pre bound) (WpFn 𝓤 H 𝓣.C 𝓣.Λ (here Z) vs Post)
    walk fn fa =
        qed 𝓛 (((‵ (flft κ q) ⊛ ‵ (flft ρ s) ⊛ ‵ ftrue) ⊛ ‵ (owns (types_at (ended Z).signature.params bound.0.0) bound.0.3 bound.0.4))
        ∷ (raw (fact 𝓤 (ρ ⊑ Z.row.lives)) ⊛ raw (fact 𝓤 Said)) ∷ []) ∵
        move ! (1 ∷ []) $ split ! $ heard ! (ρ ⊑ Z.row.lives) (λ le.
        heard ! Said (λ said. split ! $ move ! (1 ∷ []) $ fsplit ! $ fsplit ! $ keep ! (1 ∷ 3 ∷ []) $
        enter ! 𝓣.C 𝓣.Λ (here Z) vs _ $ alloc_all ! (λ l. pass_all ! refl ((tt, tt), ((tt, record { fits = fn }), ((tt, record { fits = fa }), tt))) $
        use2 𝓛 (raw ((Lends Z 𝓛 at_mem run).pre (at_lent Z 𝓛 at_mem run κ ρ q s out r))) (lent_goes Z 𝓛 at_mem run κ ρ q s out r le) $
        calls_at ! (fm_of 𝓤 H 𝓛.laws 𝓣) (Lends Z 𝓛 at_mem run) ln (at_lent Z 𝓛 at_mem run κ ρ q s out r) (and_then ! (get ! refl) (no_more !)) (λ u.
        use1 𝓛 (later (some (λ (f : Option (Bor Z.row.Denot)).
        given ((u ≡ shown_val f) × Told Z 𝓛 at_mem run κ ρ q s out r f) (‵ (seen_if Z κ f) ⊛ ‵ (flft κ q) ⊛ ‵ (flft ρ s) ⊛ ‵ ftrue))))
        (lent_Gives Z 𝓛 at_mem run κ ρ q s out r u) $ await ! tt $ pick ! (λ f.
        shown fn fa le said l u f)))))

pub allocate_spec : {M : Type 1} → stated.statement M
unfolding tables_of
allocate_spec 𝓤 𝓛 𝓜 𝓡 wired Y L g d d' met _ =
    let Z : Al = record { row = Y; laws = L; g = g; d = d; drops = d' } in
    let A = 𝓛.A in
    let 𝓣 : Tables 𝓤 𝓛.H = tables_of 𝓤 𝓛.H 𝓜 (tables 𝓤 𝓛.H 𝓜 𝓡 𝓡.env) in
    let c = F.clauses Y g d d' 𝓛 𝓜.mem 𝓡.returns in
    entered 𝓤 𝓛.H (triple_of 𝓛 (F.signature Y) (F.spec Y g d d' 𝓛 𝓜.mem 𝓡.returns)) 𝓣.C 𝓣.Λ (key.name (args Z)) (here Z)
    (code.unfolded 𝓤 𝓛.H 𝓜 𝓡 wired (Y, tt) d d')
    (walk_Meets 𝓛 (ended Z) (stayed Z) (
      Goes-dropped 𝓛 2 (self Z) yes (λ κs x f. refl),
      (Goes-dropped 𝓛 2 (plain (λ _. usize)) yes (λ κs x f. refl), (Goes-dropped 𝓛 2 (plain (λ _. usize)) yes (λ κs x f. refl), tt)),
    ) c
    (WpFn 𝓤 𝓛.H 𝓣.C 𝓣.Λ (here Z)) (WpFn-mono 𝓤 𝓛.H 𝓛.laws 𝓣 (here Z))
    (walked 𝓛 (ended Z) (stayed Z) c (WpFn 𝓤 𝓛.H 𝓣.C 𝓣.Λ (here Z)) (λ κs. (shr_vals, (uint_vals w64, (uint_vals w64, tt)))) (λ κs.
    ((λ r vs s. s.0), (uint_Tells w64, (uint_Tells w64, tt))))
    (λ κs qs bounds a τ are. walk Z 𝓛 𝓜.mem 𝓡.returns 𝓣 (met.allocate d')
    (lent_met.met 𝓤 𝓛 𝓜 𝓡 (code.calls-test_memory::Refusing::served 𝓡.env wired) Y L) κs.0 κs.1.0 qs.0 qs.1.0 bounds.0 a.0 a.1.0 a.1.1.0 τ are.1.0.1
    are.1.1.0.1)))
