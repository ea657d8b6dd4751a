-- A typed expression that breaks no rule has allowed operations, formats and words, and words of the width of its type.
use Rattle.std.proofs.Common.{◌≡◌, refl, sym, subst, ap, arith, ℕ, ◌+◌, Bool, true, false, Option, Some, None, ℤ}
use Rattle.std.specs.Prelude.{pos, negsuc, ◌-ℤ◌, ◌≤ℤ◌}
use Rattle.std.proofs.lemmas.Int.{ints}
use Rattle.fault_order.specs.Rules.{parts, none, ◌▸◌, unless}
use Rattle.fault_order.specs.Private.FirstMet.{first}
use Rattle.fault_order.proofs.TableFaults.{then_parts, rule_holds}
use Rattle.fix_word.specs.Words.{IsWord, IsMachineWord, IsWidth, IsFormat, IsShape}
use Rattle.fix_word.specs.Values.{bit_of}
use Rattle.fix_word.specs.declared.types.FixType.{FixType}
use Rattle.fix_word.specs.declared.types.Format.{Format}
use Rattle.fix_word.specs.declared.types.SigType.{SigType}
use Rattle.fix_word.specs.declared.types.SigType.TheVariants.{Fix, Bool as Truths}
use Rattle.fix_word.specs.declared.operation.Op.{Op}
use Rattle.fix_word.specs.declared.operation.Op.TheVariants as does
use Rattle.fix_word.proofs.Wraps.{word_wider}
use Rattle.silage_syntax.specs.declared.tree.BinOp.TheVariants as op
use Rattle.silage_syntax.specs.declared.tree.Lit.{Lit}
use Rattle.silage_syntax.specs.declared.tree.Lit.TheVariants.{Number, Truth}
use Rattle.silage_syntax.specs.Tree.{Manifest, Expr, literal, read, negate, not, binary, shift, cast, choose, Branches}
use Rattle.silage_syntax.specs.Tree.{no_branch, branch, Func, Program}
use Rattle.silage_syntax.specs.Manifests.{Indices}
use Rattle.silage_meaning.specs.Types.{HasShapeOf, name_type, own_type, factor_type, common_type}
use Rattle.type_rules.specs.TypedTree as typed
use Rattle.type_rules.specs.TypedTree.{TypedExpr}
use Rattle.type_rules.specs.TypedValue.{HasFormat, as_it_is, by_amount}
use Rattle.type_rules.specs.TypeRules.{is_same_shape, is_no_truth, part_type, literal_rules, cast_rules}
use Rattle.type_rules.specs.TypeRules.{product_rules, comparison_rules, expr_rules, branch_rules}
use Rattle.type_rules.specs.Translation.{word_of, fitted, rounded, no_format, chosen, one, two, three, one_bit}
use Rattle.type_rules.specs.Translation.{typed_against, typed_product, typed_cast, typed_expr, typed_choice}
use Rattle.type_rules.specs.Translation as typing
use Rattle.type_rules.specs.declared.fault.TypeFault.TheVariants.{Mismatch}
use Rattle.type_rules.specs.Private.Sound.{IsSoundType, IsSound, AreSound, HasSoundTypes}
use Rattle.type_rules.proofs.Literals.{Passes, raw_back}
use Rattle.type_rules.proofs.Tests.{shape_is, sound_shape}
use Rattle.type_rules.proofs.OwnTypes.{own_sound, factor_sound, common_sound}
use Rattle.type_rules.proofs.SameValues.{two_pass, three_pass}
use Rattle.type_rules.proofs.TypedForms.{left_bits, right_bits}
use Rattle.signal_graph.specs.Operations.{Class, quantised, truth, operands, class_of, IsCalculation}
use Rattle.signal_graph.specs.Rules.{width_of}
use Rattle.signal_graph.specs.FlatRules.{IsFlatFormat, GivesWidth}
use Rattle.loop_expand.proofs.Shapes.{fits}

abbrev pub count : typed.Parts → ℕ
count typed.no_part = 0
count (typed.part x rest) = 1 + count rest

-- with each amount that its shift may have, the operation's format is allowed
abbrev pub HasFormats : Op → Format → Option Manifest → Type 0
HasFormats o fmt amount =
    (indices : Indices) (at : Format)
    → HasFormat indices fmt amount at
    → IsFlatFormat (class_of o) at × (at.width ≡ fmt.width)

abbrev mutual
  pub IsAllowed : TypedExpr → Type 0
  IsAllowed (typed.raw z) = IsMachineWord z
  IsAllowed (typed.read place delay) = Unit {0}
  IsAllowed (typed.node o fmt row amount) =
      IsCalculation (class_of o) × (count row ≡ operands o) × HasFormats o fmt amount × AreAllowed row

  pub AreAllowed : typed.Parts → Type 0
  AreAllowed typed.no_part = Unit {0}
  AreAllowed (typed.part x rest) = IsAllowed x × AreAllowed rest

bit_word : (b : Bool) → IsWord 2 (bit_of b)
bit_word true = record { low = omega (arith, ints); high = omega (arith, ints) }
bit_word false = record { low = omega (arith, ints); high = omega (arith, ints) }

plain_format : (o : Op) (fmt : Format) → IsFlatFormat (class_of o) fmt → HasFormats o fmt None
plain_format o fmt h indices _ as_it_is = (h, refl)

fitted_format : (t : FixType) → IsShape t.shape → IsFormat (fitted t)
fitted_format t is = record { lowest = omega (arith, ints); highest = omega (arith, ints); width = is.width }

rounded_format : (t : FixType) (bits : ℤ)
    → IsShape t.shape
    → negsuc 39 ≤ℤ bits
    → bits ≤ℤ pos 80
    → IsFormat (rounded t bits)
rounded_format t bits is low high = record { lowest = low; highest = high; width = is.width }

shift_formats : (left : Bool) (t : FixType) (amount : Manifest)
    → IsShape t.shape
    → HasFormats does.Pass (one_bit left t) (Some amount)
shift_formats true t amount is indices _ (by_amount {k = k} m) =
    let e = left_bits k in
    let most = m.most in
    (record { lowest = omega (arith, ints); highest = omega (arith, ints); width = is.width }, refl)
shift_formats false t amount is indices _ (by_amount {k = k} m) =
    let e = right_bits k in
    let most = m.most in
    (record { lowest = omega (arith, ints); highest = omega (arith, ints); width = is.width }, refl)

bit_width : (left : Bool) (t : FixType) → (one_bit left t).width ≡ t.shape.w
bit_width true t = refl
bit_width false t = refl

pub same_width : (a b : SigType) → HasShapeOf a b → width_of a ≡ width_of b
same_width (Fix a) (Fix b) h = ap (λ s. s.w) h
same_width (Fix a) Truths h = absurd h
same_width Truths (Fix b) h = absurd h
same_width Truths Truths h = refl

one_width : (ty : SigType) → typing.width_of ty ≡ width_of ty
one_width (Fix t) = refl
one_width Truths = refl

sound_width : (ty : SigType) → IsSoundType ty → IsWidth (width_of ty)
sound_width (Fix t) ok = (sound_shape t ok).width
sound_width Truths ok = record { narrowest = omega arith; widest = omega arith }

module _ (p : Program) (f : Func) where
  -- the words of the typed expression have w bits; for a choice that is so where its choices' have
  abbrev mutual
    pub FitsIn : ℕ → TypedExpr → Type 0
    FitsIn w (typed.raw z) = IsWord w z
    FitsIn w (typed.read place delay) = (ty : SigType) → name_type p f place.name ≡ Some ty → width_of ty ≡ w
    FitsIn w (typed.node o fmt row amount) = GivesWidth (class_of o) fmt (ChoicesFitIn w row) w

    pub ChoicesFitIn : ℕ → typed.Parts → Type 0
    ChoicesFitIn w typed.no_part = Unit {0}
    ChoicesFitIn w (typed.part condition choices) = AllFitIn w choices

    pub AllFitIn : ℕ → typed.Parts → Type 0
    AllFitIn w typed.no_part = Unit {0}
    AllFitIn w (typed.part x rest) = FitsIn w x × AllFitIn w rest

  pub record Good (ty : SigType) (t : TypedExpr) : Type 0 where
    pub allowed : IsAllowed t
    pub fits : FitsIn (width_of ty) t

  literal_good : (l : Lit) (ty : SigType)
      → IsSoundType ty
      → Passes (literal_rules l ty)
      → Good ty (typed.raw (word_of l ty))
  literal_good (Number negative digits places at) (Fix t) ok h =
      let is =
      raw_back (Number negative digits places at) (Fix t) (word_of (Number negative digits places at) (Fix t)) h
      refl in
      record { allowed = word_wider t.shape.w 40 _ (sound_shape t ok).width.widest is.word; fits = is.word }
  literal_good (Number negative digits places at) Truths ok h = absurd (cc h)
  literal_good (Truth value at) (Fix t) ok h = absurd (cc h)
  literal_good (Truth value at) Truths ok h =
      record { allowed = word_wider 2 40 _ (omega arith) (bit_word value); fits = bit_word value }

  -- operations on one part and on two, quantised and not
  quantised_one : (o : Op)
      → class_of o ≡ quantised
      → operands o ≡ 1
      → (fmt : Format) (amount : Option Manifest) (t : FixType) (u : TypedExpr)
      → HasFormats o fmt amount
      → fmt.width ≡ t.shape.w
      → IsAllowed u
      → Good (Fix t) (typed.node o fmt (one u) amount)
  quantised_one o c n fmt amount t u format width allowed = record {
    allowed = (subst IsCalculation (sym c) tt, sym n, format, (allowed, tt));
    fits = subst (λ (z : Class). GivesWidth z fmt (ChoicesFitIn t.shape.w (one u)) t.shape.w) (sym c) width;
  }

  quantised_two : (o : Op)
      → class_of o ≡ quantised
      → operands o ≡ 2
      → (fmt : Format) (t : FixType) (u v : TypedExpr)
      → IsFormat fmt
      → fmt.width ≡ t.shape.w
      → IsAllowed u
      → IsAllowed v
      → Good (Fix t) (typed.node o fmt (two u v) None)
  quantised_two o c n fmt t u v format width a b = record {
    allowed = (
      subst IsCalculation (sym c) tt,
      sym n,
      plain_format o fmt (subst (λ (z : Class). IsFlatFormat z fmt) (sym c) format),
      (a, (b, tt)),
    );
    fits = subst (λ (z : Class). GivesWidth z fmt (ChoicesFitIn t.shape.w (two u v)) t.shape.w) (sym c) width;
  }

  truth_two : (o : Op)
      → class_of o ≡ truth
      → operands o ≡ 2
      → (u v : TypedExpr)
      → IsAllowed u
      → IsAllowed v
      → Good Truths (typed.node o no_format (two u v) None)
  truth_two o c n u v a b = record {
    allowed = (
      subst IsCalculation (sym c) tt,
      sym n,
      plain_format o no_format (subst (λ (z : Class). IsFlatFormat z no_format) (sym c) refl),
      (a, (b, tt)),
    );
    fits = subst (λ (z : Class). GivesWidth z no_format (ChoicesFitIn 2 (two u v)) 2) (sym c) refl;
  }

  -- a part against a type, as its rules say
  abbrev Part : Expr → Type 0
  Part x = (ty : SigType) → IsSoundType ty → Passes (expr_rules p f x ty) → Good ty (typed_expr p f x ty)

  compared : (o : Op)
      → class_of o ≡ truth
      → operands o ≡ 2
      → (x y : Expr) (at : ℕ) (common : Option SigType)
      → ((ty : SigType) → common ≡ Some ty → IsSoundType ty)
      → Passes (comparison_rules common (expr_rules p f x) (expr_rules p f y) at)
      → Part x
      → Part y
      → Good Truths
      (typed.node o no_format
      (two (typed_against (typed_expr p f x) common) (typed_against (typed_expr p f y) common)) None)
  compared o c n x y at None ok h gx gy = absurd (cc h)
  compared o c n x y at (Some Truths) ok h gx gy = absurd (cc h)
  compared o c n x y at (Some (Fix t)) ok h gx gy =
      let k = two_pass (expr_rules p f x (Fix t)) (expr_rules p f y (Fix t)) h in
      truth_two o c n _ _ (gx (Fix t) (ok (Fix t) refl) k.0).allowed (gy (Fix t) (ok (Fix t) refl) k.1).allowed

  turned : (o : Op)
      → class_of o ≡ truth
      → operands o ≡ 2
      → (x y : Expr) (at : ℕ) (common : Option SigType)
      → ((ty : SigType) → common ≡ Some ty → IsSoundType ty)
      → Passes (comparison_rules common (expr_rules p f x) (expr_rules p f y) at)
      → Part x
      → Part y
      → Good Truths
      (typed.node o no_format
      (two (typed_against (typed_expr p f y) common) (typed_against (typed_expr p f x) common)) None)
  turned o c n x y at None ok h gx gy = absurd (cc h)
  turned o c n x y at (Some Truths) ok h gx gy = absurd (cc h)
  turned o c n x y at (Some (Fix t)) ok h gx gy =
      let k = two_pass (expr_rules p f x (Fix t)) (expr_rules p f y (Fix t)) h in
      truth_two o c n _ _ (gy (Fix t) (ok (Fix t) refl) k.1).allowed (gx (Fix t) (ok (Fix t) refl) k.0).allowed

  multiplied : (x y : Expr) (t : FixType) (at : ℕ)
      → IsShape t.shape
      → (left right : Option SigType)
      → ((ty : SigType) → left ≡ Some ty → IsSoundType ty)
      → ((ty : SigType) → right ≡ Some ty → IsSoundType ty)
      → Passes (product_rules left right (expr_rules p f x) (expr_rules p f y) at)
      → Part x
      → Part y
      → Good (Fix t) (typed_product left right (typed_expr p f x) (typed_expr p f y) t)
  multiplied x y t at shape None right okl okr h gx gy = absurd (cc h)
  multiplied x y t at shape (Some Truths) right okl okr h gx gy = absurd (cc h)
  multiplied x y t at shape (Some (Fix r)) None okl okr h gx gy = absurd (cc h)
  multiplied x y t at shape (Some (Fix r)) (Some Truths) okl okr h gx gy = absurd (cc h)
  multiplied x y t at shape (Some (Fix r)) (Some (Fix s)) okl okr h gx gy =
      let k = two_pass (expr_rules p f x (Fix r)) (expr_rules p f y (Fix s)) h in
      let rs = sound_shape r (okl (Fix r) refl) in
      let ss = sound_shape s (okr (Fix s) refl) in
      let bits = pos (r.shape.f + s.shape.f) -ℤ pos t.shape.f in
      let rf = rs.places in
      let rw_ = rs.width.widest in
      let sf = ss.places in
      let sw = ss.width.widest in
      let tf = shape.places in
      let tw = shape.width.widest in
      quantised_two does.Mul refl refl (rounded t bits) t _ _
      (rounded_format t bits shape (omega (arith, ints)) (omega (arith, ints))) refl
      (gx (Fix r) (okl (Fix r) refl) k.0).allowed (gy (Fix s) (okr (Fix s) refl) k.1).allowed

  converted : (x : Expr) (c t : FixType) (at : ℕ)
      → IsSoundType (Fix c)
      → (own : Option SigType)
      → ((ty : SigType) → own ≡ Some ty → IsSoundType ty)
      → Passes (cast_rules own (expr_rules p f x) c t at)
      → c.shape ≡ t.shape
      → Part x
      → Good (Fix t) (typed_cast own (typed_expr p f x) c)
  converted x c t at okc (Some Truths) ok h shape gx =
      let k =
      three_pass (unless (is_same_shape (Fix c) (Fix t)) (Mismatch at))
      (unless (is_no_truth (Some Truths)) (Mismatch at)) (expr_rules p f x (part_type (Some Truths) c)) h in
      absurd (cc (k.1))
  converted x c t at okc (Some (Fix r)) ok h shape gx =
      let k =
      three_pass (unless (is_same_shape (Fix c) (Fix t)) (Mismatch at))
      (unless (is_no_truth (Some (Fix r))) (Mismatch at)) (expr_rules p f x (part_type (Some (Fix r)) c)) h in
      let rs = sound_shape r (ok (Fix r) refl) in
      let cs = sound_shape c okc in
      let bits = pos r.shape.f -ℤ pos c.shape.f in
      let rf = rs.places in let rw_ = rs.width.widest in let cf = cs.places in let cw = cs.width.widest in
      quantised_one does.Pass refl refl (rounded c bits) None t _
      (plain_format does.Pass (rounded c bits) (rounded_format c bits cs (omega (arith, ints)) (omega (arith, ints))))
      (ap (λ s. s.w) shape)
      (gx (Fix r) (ok (Fix r) refl) k.2).allowed
  converted x c t at okc None ok h shape gx =
      let k =
      three_pass (unless (is_same_shape (Fix c) (Fix t)) (Mismatch at)) (unless (is_no_truth None) (Mismatch at))
      (expr_rules p f x (part_type None c)) h in
      let g = gx (Fix c) okc k.2 in
      record {
        allowed = g.allowed;
        fits = subst (λ (w : ℕ). FitsIn w (typed_expr p f x (Fix c))) (ap (λ s. s.w) shape) g.fits;
      }

  chosen_good : (ty : SigType)
      → IsSoundType ty
      → (c v r : TypedExpr)
      → IsAllowed c
      → Good ty v
      → Good ty r
      → Good ty (typed.node does.Sel (chosen ty) (three c v r) None)
  chosen_good ty ok c v r a gv gr =
      let w = sound_width ty ok in
      let e = one_width ty in
      record {
        allowed = (
          tt,
          refl,
          plain_format does.Sel (chosen ty)
              (record { width = subst IsWidth (sym e) w; plain = refl }),
          (a, (gv.allowed, (gr.allowed, tt))),
        );
        fits = (e, (gv.fits, (gr.fits, tt)));
      }

  module _ (types : HasSoundTypes p f) where
    mutual
      pub typed_good : (x : Expr) (ty : SigType)
          → IsSound x
          → IsSoundType ty
          → Passes (expr_rules p f x ty)
          → Good ty (typed_expr p f x ty)
      typed_good (literal l) ty sound ok h = literal_good l ty ok h
      typed_good (read place delay) ty sound ok h =
          record { allowed = tt; fits = λ r is. same_width r ty (fits (name_type p f place.name) r ty place.at is h) }
      typed_good (negate at x) (Fix t) sound ok h =
          let s = sound_shape t ok in
          quantised_one does.Neg refl refl (fitted t) None t _ (plain_format does.Neg (fitted t) (fitted_format t s))
          refl (typed_good x (Fix t) sound ok h).allowed
      typed_good (negate at x) Truths sound ok h = absurd (cc h)
      typed_good (not at x) (Fix t) sound ok h = absurd (cc h)
      typed_good (not at x) Truths sound ok h =
          record {
            allowed =
                (tt, refl, plain_format does.Not no_format refl, ((typed_good x Truths sound refl h).allowed, tt));
            fits = refl;
          }
      typed_good (shift at left x amount) (Fix t) sound ok h =
          let s = sound_shape t ok in
          quantised_one does.Pass refl refl (one_bit left t) (Some amount) t _ (shift_formats left t amount s)
          (bit_width left t) (typed_good x (Fix t) sound ok h).allowed
      typed_good (shift at left x amount) Truths sound ok h = absurd (cc h)
      typed_good (cast at c x) (Fix t) sound ok h =
          let k =
          three_pass (unless (is_same_shape (Fix c) (Fix t)) (Mismatch at))
          (unless (is_no_truth (own_type p f x)) (Mismatch at)) (expr_rules p f x (part_type (own_type p f x) c))
          h in
          let shape : c.shape ≡ t.shape =
          shape_is (Fix c) (Fix t) (rule_holds (is_same_shape (Fix c) (Fix t)) (Mismatch at) k.0) in
          converted x c t at sound.0 (own_type p f x) (λ ty e. own_sound p f types x sound.1 ty e) h shape
          (λ ty o g. typed_good x ty sound.1 o g)
      typed_good (cast at c x) Truths sound ok h = absurd (cc h)
      typed_good (choose at branches last) ty sound ok h =
          let k = two_pass (parts (branch_rules p f branches ty)) (expr_rules p f last ty) h in
          choice_good branches ty sound.0 ok k.0 (typed_expr p f last ty) (typed_good last ty sound.1 ok k.1)
      typed_good (binary at op.Add x y) (Fix t) sound ok h =
          let k = two_pass (expr_rules p f x (Fix t)) (expr_rules p f y (Fix t)) h in
          quantised_two does.Add refl refl (fitted t) t _ _ (fitted_format t (sound_shape t ok)) refl
          (typed_good x (Fix t) sound.0 ok k.0).allowed (typed_good y (Fix t) sound.1 ok k.1).allowed
      typed_good (binary at op.Sub x y) (Fix t) sound ok h =
          let k = two_pass (expr_rules p f x (Fix t)) (expr_rules p f y (Fix t)) h in
          quantised_two does.Sub refl refl (fitted t) t _ _ (fitted_format t (sound_shape t ok)) refl
          (typed_good x (Fix t) sound.0 ok k.0).allowed (typed_good y (Fix t) sound.1 ok k.1).allowed
      typed_good (binary at op.Mul x y) (Fix t) sound ok h =
          multiplied x y t at (sound_shape t ok) (factor_type p f x y) (factor_type p f y x)
          (λ ty e. factor_sound p f types x y sound.0 sound.1 ty e)
          (λ ty e. factor_sound p f types y x sound.1 sound.0 ty e) h
          (λ ty o g. typed_good x ty sound.0 o g) (λ ty o g. typed_good y ty sound.1 o g)
      typed_good (binary at op.Lt x y) Truths sound ok h =
          compared does.Lt refl refl x y at (common_type p f x y)
          (λ ty e. common_sound p f types x y sound.0 sound.1 ty e) h (λ ty o g. typed_good x ty sound.0 o g)
          (λ ty o g. typed_good y ty sound.1 o g)
      typed_good (binary at op.Le x y) Truths sound ok h =
          compared does.Le refl refl x y at (common_type p f x y)
          (λ ty e. common_sound p f types x y sound.0 sound.1 ty e) h (λ ty o g. typed_good x ty sound.0 o g)
          (λ ty o g. typed_good y ty sound.1 o g)
      typed_good (binary at op.Eq x y) Truths sound ok h =
          compared does.Eq refl refl x y at (common_type p f x y)
          (λ ty e. common_sound p f types x y sound.0 sound.1 ty e) h (λ ty o g. typed_good x ty sound.0 o g)
          (λ ty o g. typed_good y ty sound.1 o g)
      typed_good (binary at op.Ne x y) Truths sound ok h =
          compared does.Ne refl refl x y at (common_type p f x y)
          (λ ty e. common_sound p f types x y sound.0 sound.1 ty e) h (λ ty o g. typed_good x ty sound.0 o g)
          (λ ty o g. typed_good y ty sound.1 o g)
      typed_good (binary at op.Gt x y) Truths sound ok h =
          turned does.Lt refl refl x y at (common_type p f x y)
          (λ ty e. common_sound p f types x y sound.0 sound.1 ty e) h (λ ty o g. typed_good x ty sound.0 o g)
          (λ ty o g. typed_good y ty sound.1 o g)
      typed_good (binary at op.Ge x y) Truths sound ok h =
          turned does.Le refl refl x y at (common_type p f x y)
          (λ ty e. common_sound p f types x y sound.0 sound.1 ty e) h (λ ty o g. typed_good x ty sound.0 o g)
          (λ ty o g. typed_good y ty sound.1 o g)
      typed_good (binary at op.And x y) Truths sound ok h =
          let k = two_pass (expr_rules p f x Truths) (expr_rules p f y Truths) h in
          truth_two does.And refl refl _ _ (typed_good x Truths sound.0 refl k.0).allowed
          (typed_good y Truths sound.1 refl k.1).allowed
      typed_good (binary at op.Or x y) Truths sound ok h =
          let k = two_pass (expr_rules p f x Truths) (expr_rules p f y Truths) h in
          truth_two does.Or refl refl _ _ (typed_good x Truths sound.0 refl k.0).allowed
          (typed_good y Truths sound.1 refl k.1).allowed
      typed_good (binary at op.Lt x y) (Fix t) sound ok h = absurd (cc h)
      typed_good (binary at op.Le x y) (Fix t) sound ok h = absurd (cc h)
      typed_good (binary at op.Eq x y) (Fix t) sound ok h = absurd (cc h)
      typed_good (binary at op.Ne x y) (Fix t) sound ok h = absurd (cc h)
      typed_good (binary at op.Gt x y) (Fix t) sound ok h = absurd (cc h)
      typed_good (binary at op.Ge x y) (Fix t) sound ok h = absurd (cc h)
      typed_good (binary at op.And x y) (Fix t) sound ok h = absurd (cc h)
      typed_good (binary at op.Or x y) (Fix t) sound ok h = absurd (cc h)
      typed_good (binary at op.Add x y) Truths sound ok h = absurd (cc h)
      typed_good (binary at op.Sub x y) Truths sound ok h = absurd (cc h)
      typed_good (binary at op.Mul x y) Truths sound ok h = absurd (cc h)

      choice_good : (branches : Branches) (ty : SigType)
          → AreSound branches
          → IsSoundType ty
          → Passes (parts (branch_rules p f branches ty))
          → (last : TypedExpr)
          → Good ty last
          → Good ty (typed_choice p f branches ty last)
      choice_good no_branch ty sound ok h last g = g
      choice_good (branch condition x rest) ty sound ok h last g =
          let k =
          then_parts (first (parts (expr_rules p f condition Truths ▸ expr_rules p f x ty ▸ none)))
          (first (parts (branch_rules p f rest ty))) h in
          let q = two_pass (expr_rules p f condition Truths) (expr_rules p f x ty) k.0 in
          let c = typed_good condition Truths sound.0 refl q.0 in
          let v = typed_good x ty sound.1 ok q.1 in
          let r = choice_good rest ty sound.2 ok k.1 last g in
          chosen_good ty ok _ _ _ c.allowed v r
