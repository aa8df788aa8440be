-- A slot and the parts of a box hold a pointer and a handle each. A function that moves both from one to the other moves what they own.
--     heap_box                  a box of the heap's
--     moving to from            the code that makes a struct of the two fields of another one
--     Holder, parts_of          a struct that holds a box: how it is made and read, and that with a value it owns what the box does; the parts
--     met                       the code meets the contract: what F held is what T holds. `asks` is what the caller owes, and tells the value
use mathlib.Core.Path.{◌≡◌, refl, sym, subst, ap, ◌∙◌}
use mathlib.Core.List.{List, [], ◌∷◌, ◌++◌}
use Rattle.std.specs.Prelude.{ℕ}
use seplogic.Ra.Ura.{Ura}
use mir.Syntax.{impl, dnil, Sym, Ty, Fn, Body, ty_struct, ty_ptr, tnil, tcons, local, value_local, place, field, copy, assign, aggregate, rv_opd, seq, return}
use mir.Val.{Val}
use base.Logic.{SProp, ent, id⊢}
use base.Fml.{Fml, ftrue, fsep}
use prog.Routine.{Callee}
use prog.Wp.{WpFn, Tables, Closed}
use types.Logic.{Logic, sem}
use contract.Monad.{fact}
use sound.WpLaws.{WpFn-mono}
use types.Kit.{Item, ‵, raw, ◌⊛◌, ◌$◌, ◌∵◌, !, qed, by, move, drop, use1, join, split, fsplit, fjoin, suffices, done}
use types.Part.{whole, sub, agg}
use types.Run.{stop, fld, no_more, and_then, of_opd, returns, enter}
use types.ByLocal.{alloc_all, pass_all, free_all, look_at, get, get_in, sets}
use denote.RattleType.{RattleType}
use denote.Param.Laws.{Laws}
use denote.RawPtr.{Ptr}
use denote.Exit.{yes, Last, left}
use denote.Signature.{plain}
use denote.Steps.{heard, nothing}
use denote.Struct.Owning.{Owning, row}
use denote.Triple.Clauses.{Ended, Clauses, closing}
use denote.Triple.Spec.{triple_of}
use denote.Triple.Statement.{Triple}
use contract.Running.{Running, tables, tables_of}
use prog.Model.{Model}
use denote.Triple.Table.{entered}
use denote.Triple.Walked.{says, Stays, stay_dropped, walk_of, ends_at, Goes-dropped, walk_Meets}
use Rattle.core.proofs.alloc.Calls.{α, Fits}
use Rattle.std_alloc.proofs.BoxSteps.Form.{Bx, D, B, word, box_typed}
use Rattle.std_alloc.proofs.BoxSteps.Steps.{box_out, box_in}
use Rattle.std_heap.specs.contracts.Global as Heap
use Rattle.std_heap.specs.contracts.GlobalAllocator.TheImpl.{ghosts, dict}
use Rattle.std_heap.proofs.Global.TheLaws as heap
use Rattle.c_buffer.specs.contracts.parts.Parts as Parts

abbrev pub heap_box : (X : RattleType) → Laws X → Bx
heap_box X laws = record { row = X; laws = laws; al = record { row = Heap.the_row; laws = heap.the_row_laws; g = ghosts; d = dict; drops = impl [] tnil dnil } }

module _ (E : Bx) where
  abbrev struct_of : Sym → Ty
  struct_of name = ty_struct name (tcons ty_ptr (tcons (α E.al) tnil))

  abbrev moved : Body
  moved =
      seq (assign (place 2 []) (rv_opd (copy (place 1 (field 0 ∷ [])))))
      (seq (assign (place 3 []) (rv_opd (copy (place 1 (field 1 ∷ [])))))
      (seq (assign (place 4 []) (rv_opd (copy (place 2 []))))
      (seq (assign (place 0 []) (aggregate (copy (place 4 []) ∷ copy (place 3 []) ∷ []))) return)))

  abbrev pub moving : Sym → Sym → Fn
  moving to from = record {
    lifetimes = 0;
    outlives = [];
    ty_params = [];
    givens = 0;
    params = 1;
    locals = local (struct_of to) value_local ∷ local (struct_of from) value_local ∷ local ty_ptr value_local ∷ local (α E.al) value_local ∷ local ty_ptr value_local ∷ [];
    body = moved;
  }

  module _ (type : Owning) where
    abbrev Owns : {Held : Type 0} → (E.row.Denot → Held) → (Ptr → E.al.row.Denot → Held → (row type).Denot) → Type 1
    Owns one made = (p : Ptr) (a : E.al.row.Denot) (x : E.row.Denot) (ws : List Val) → (row type).own_val (made p a (one x)) ws ≡ (B E).own_val (record { ptr = p; alloc = a; value = x }) ws

    abbrev Left : Type 0
    Left = (d : (row type).Denot) → Last ((row type).exit yes) d

    abbrev IsSilent : Type 1
    IsSilent = (d : (row type).Denot) (f : Last ((row type).exit yes) d) → left ((row type).exit yes) d f ≡ ftrue

  pub record Holder : Type 2 where
    pub type : Owning
    pub Held : Type 0
    pub one : E.row.Denot → Held
    pub ptr : (row type).Denot → Ptr
    pub alloc : (row type).Denot → E.al.row.Denot
    pub held : (row type).Denot → Held
    pub made : Ptr → E.al.row.Denot → Held → (row type).Denot
    pub held_made : (p : Ptr) (a : E.al.row.Denot) (h : Held) → held (made p a h) ≡ h
    pub made_of : (d : (row type).Denot) → made (ptr d) (alloc d) (held d) ≡ d
    pub owns : Owns type one made
    pub last : Left type
    pub silent : IsSilent type

  abbrev parts_type : Owning
  parts_type = Parts.the_type E.row E.al.row E.al.g

  abbrev pub parts_of : Owns parts_type (λ x. x) (λ p a x. record { ptr = p; alloc = a; value = x }) → Left parts_type → IsSilent parts_type → Holder
  parts_of owns last silent = record {
    type = parts_type;
    Held = E.row.Denot;
    one = λ x. x;
    ptr = λ p. p.ptr;
    alloc = λ p. p.alloc;
    held = λ p. p.value;
    made = λ p a x. record { ptr = p; alloc = a; value = x };
    held_made = λ p a x. refl;
    made_of = λ p. refl;
    owns = owns;
    last = last;
    silent = silent;
  }

  module _ {M : Type 1} {𝓤 : Ura M} (𝓛 : Logic 𝓤) (𝓣 : Tables 𝓤 𝓛.H) where
    open 𝓛 use {H}

    moves : (to from : Sym) (hv : Val) (b o : ℕ) (fa : Fits E.al hv) (owned : Item 𝓤) (Post : Val → SProp 𝓤)
        → ent 𝓤 (types.Kit.⋆ 𝓛 (owned ∷ [])) (Post (word E hv b o)) → ent 𝓤 (types.Kit.⋆ 𝓛 (owned ∷ [])) (WpFn 𝓤 H 𝓣.C 𝓣.Λ (moving to from) (word E hv b o ∷ []) Post)
    moves to from hv b o fa owned Post after =
        qed 𝓛 (owned ∷ []) ∵ enter ! 𝓣.C 𝓣.Λ (moving to from) (word E hv b o ∷ []) _ $ alloc_all ! (λ ls. pass_all ! refl (box_typed E hv b o fa, tt) $
        sets ! (of_opd ! (get_in ! (fld ! refl (stop !)) (sub ! 0 refl (whole !)))) refl (tt, tt) $ sets ! (of_opd ! (get_in ! (fld ! refl (stop !)) (sub ! 1 refl (whole !)))) refl fa $ sets ! (of_opd ! (get ! refl)) refl (tt, tt) $
        sets ! (agg ! (and_then ! (get ! refl) (and_then ! (get ! refl) (no_more !)))) refl (box_typed E hv b o fa) $ returns ! (look_at ! 0 refl) $ free_all ! refl $ by ! after)

  module _ (F T : Holder) (G : Type 0) (value_of : (row F.type).Denot → G → E.row.Denot) where
    abbrev ended : Ended
    ended = record { signature = record { lifetimes = 0; outlives = []; params = plain (λ _. row F.type) ∷ []; result = plain (λ _. row T.type) }; kept = (yes, tt) }

    abbrev stayed : Stays ended.signature.params ended.kept
    stayed = (stay_dropped (plain (λ _. row F.type)) yes, tt)

    abbrev code : Fn
    code = moving T.type.name F.type.name

    abbrev box : Ptr → E.al.row.Denot → E.row.Denot → D E
    box p a x = record { ptr = p; alloc = a; value = x }

    module _ {M : Type 1} {𝓤 : Ura M} (𝓛 : Logic 𝓤) (asks : (row F.type).Denot → G → SProp 𝓤) (knows : (d : (row F.type).Denot) (g : G) → ent 𝓤 (asks d g) (fact 𝓤 (F.held d ≡ F.one (value_of d g)))) where
      abbrev clauses : Clauses 𝓤 ended
      clauses κs a = record { ghost = G; requires = asks a.0; ensures = λ g r e. fact 𝓤 (T.held r ≡ T.one (value_of a.0 g)) }

      out_of_box : (p : Ptr) (a : E.al.row.Denot) (x : E.row.Denot) (ws : List Val) → ent 𝓤 (sem 𝓛 ((B E).own_val (box p a x) ws)) (sem 𝓛 ((row T.type).own_val (T.made p a (T.one x)) ws))
      out_of_box p a x ws = subst (λ (f : Fml). ent 𝓤 (sem 𝓛 f) (sem 𝓛 ((row T.type).own_val (T.made p a (T.one x)) ws))) (T.owns p a x ws) (id⊢ 𝓤 _)

      into_box : (d : (row F.type).Denot) (x : E.row.Denot) (ws : List Val) → F.held d ≡ F.one x → ent 𝓤 (sem 𝓛 ((row F.type).own_val d ws)) (sem 𝓛 ((B E).own_val (box (F.ptr d) (F.alloc d) x) ws))
      into_box d x ws e =
          subst (λ (t : (row F.type).Denot). ent 𝓤 (sem 𝓛 ((row F.type).own_val t ws)) (sem 𝓛 ((B E).own_val (box (F.ptr d) (F.alloc d) x) ws)))
          (ap (F.made (F.ptr d) (F.alloc d)) (sym e) ∙ F.made_of d)
          (subst (λ (f : Fml). ent 𝓤 (sem 𝓛 f) (sem 𝓛 ((B E).own_val (box (F.ptr d) (F.alloc d) x) ws))) (sym (F.owns (F.ptr d) (F.alloc d) x ws)) (id⊢ 𝓤 _))

      module _ (𝓣 : Tables 𝓤 𝓛.H) where
        open 𝓛 use {H}

        walk : (z : (walk_of 𝓛 ended stayed clauses).Ghost) → ent 𝓤 ((walk_of 𝓛 ended stayed clauses).pre z) (WpFn 𝓤 H 𝓣.C 𝓣.Λ code (z.0.4.0 ++ []) ((walk_of 𝓛 ended stayed clauses).post z))
        walk z =
            let Post = (walk_of 𝓛 ended stayed clauses).post z in
            let d : (row F.type).Denot = z.0.3.0 in let g : G = z.1 in let x : E.row.Denot = value_of d g in
            let v : D E = box (F.ptr d) (F.alloc d) x in
            let made : (row T.type).Denot = T.made v.ptr v.alloc (T.one x) in
            qed 𝓛 ((‵ ftrue ⊛ ‵ (fsep ((row F.type).own_val d z.0.4.0) ftrue)) ∷ raw (asks d g) ∷ []) ∵ move ! (1 ∷ []) $
            use1 𝓛 (raw (fact 𝓤 (F.held d ≡ F.one x))) (knows d g) $ heard ! (F.held d ≡ F.one x) (λ e. split ! $ drop ! $ fsplit ! $
            use1 𝓛 (‵ ((B E).own_val v z.0.4.0)) (into_box d x z.0.4.0 e) $
            box_out E ! v z.0.4.0 (λ b o hv e ws fa. box_in E ! v b o v.value e refl $
            let w = word E hv b o in let owned : Item 𝓤 = ‵ ((row T.type).own_val made (w ∷ [])) in
            use1 𝓛 owned (out_of_box v.ptr v.alloc x (w ∷ [])) $ move ! (1 ∷ 2 ∷ []) $ drop ! $ drop ! $
            by ! (subst (λ (us : List Val). ent 𝓤 (types.Kit.⋆ 𝓛 (owned ∷ [])) (WpFn 𝓤 H 𝓣.C 𝓣.Λ code (us ++ []) Post)) (sym ws)
            (moves 𝓛 𝓣 T.type.name F.type.name hv b o fa owned Post (qed 𝓛 (owned ∷ []) ∵
            suffices ! _ (ends_at 𝓛 ended stayed clauses z w made (F.last d, tt) (tt, tt)) $ says ! (T.held_made v.ptr v.alloc (T.one x)) $
            nothing ! $ nothing ! $ fjoin ! $ join ! $ nothing ! $ join ! $ done !)))))

      module _ (𝓜 : Model 𝓤 𝓛.H) (𝓡 : Running 𝓤 𝓛.H 𝓜) where
        abbrev 𝓣 : Tables 𝓤 𝓛.H
        𝓣 = tables_of 𝓤 𝓛.H 𝓜 (tables 𝓤 𝓛.H 𝓜 𝓡 𝓡.env)

        pub met : (k : Callee) → Closed 𝓤 𝓛.H 𝓣.C 𝓣.Λ k code → Triple 𝓤 (𝓣.C k) (triple_of 𝓛 ended.signature (closing 𝓛 ended clauses))
        met k closed =
            entered 𝓤 𝓛.H (triple_of 𝓛 ended.signature (closing 𝓛 ended clauses)) 𝓣.C 𝓣.Λ k code closed
            (walk_Meets 𝓛 ended stayed (Goes-dropped 𝓛 0 (plain (λ _. row F.type)) yes (λ κs d f. F.silent d f), tt) clauses (WpFn 𝓤 𝓛.H 𝓣.C 𝓣.Λ code) (WpFn-mono 𝓤 𝓛.H 𝓛.laws 𝓣 code) (walk 𝓣))
