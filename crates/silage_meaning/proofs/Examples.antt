-- Small programs, read by the definitions.
use Rattle.std.proofs.Common.{◌≡◌, refl, sym, arith, ℕ, inl, inr, Bool, true, false, codes, List, [], ◌∷◌, Some, None}
use Rattle.std.proofs.Common.{◌≤◌, ℤ, pos, negsuc, ◌+ℤ◌, ◌*ℤ◌}
use Rattle.std.proofs.lemmas.Int.{ints}
use Rattle.fix_word.specs.Words.{IsWord, IsWrap, IsFit, IsForm, IsShape}
use Rattle.fix_word.specs.declared.types.FixType.{FixType}
use Rattle.fix_word.specs.declared.types.Mode.{Mode}
use Rattle.fix_word.specs.declared.types.Mode.TheVariants.{Trunc, Round, Sat}
use Rattle.fix_word.specs.declared.types.SigType.{SigType}
use Rattle.fix_word.specs.declared.types.SigType.TheVariants as sig
use Rattle.silage_syntax.specs.declared.tree.BinOp.TheVariants as op
use Rattle.silage_syntax.specs.declared.tree.MOp.TheVariants as mop
use Rattle.silage_syntax.specs.declared.tree.Decl.{Decl}
use Rattle.silage_syntax.specs.declared.tree.Lit.TheVariants.{Number}
use Rattle.silage_syntax.specs.Tree.{Manifest, whole, counter, minus, both, Place, Expr, literal, read, binary, cast}
use Rattle.silage_syntax.specs.Tree.{choose, no_branch, branch, equation, call, loop, initial, Items, no_item, item}
use Rattle.silage_syntax.specs.Tree.{Func, function, Program}
use Rattle.silage_syntax.specs.Manifests.{manifest_value, LooksBack, no_delay, delay}
use Rattle.silage_syntax.specs.Names.{IsOffset}
use Rattle.silage_meaning.specs.Instances.{Instance, main, inside, element, IsTurn, IsInstance, main_is, inside_is}
use Rattle.silage_meaning.specs.Instances.{Site, Call}
use Rattle.silage_meaning.specs.Value.{Words, IsRead, signal, IsValue, IsChosen}
use Rattle.silage_meaning.specs.Solves.{value, same, IsDefined, equated, argument, result, IsPreset}
use Rattle.silage_meaning.specs.Types.{IsRawWord}
use Rattle.silage_meaning.specs.Rules.{reads_at, DependsNow, direct}

-- manifest numbers
odd :
    manifest_value ((codes "i", pos 3) ∷ [])
    (both 0 mop.Add (both 0 mop.Mul (whole 2 0) (counter (codes "i") 0)) (whole 1 0)) ≡ Some (pos 7)
odd = refl

too_great : manifest_value [] (both 0 mop.Add (whole 2147483647 0) (whole 1 0)) ≡ None
too_great = refl

too_great_alone : manifest_value [] (minus 0 (whole 2147483648 0)) ≡ None
too_great_alone = refl

least : manifest_value [] (both 0 mop.Sub (minus 0 (whole 2147483647 0)) (whole 1 0)) ≡ Some (negsuc 2147483647)
least = refl

unbound : manifest_value ((codes "i", pos 3) ∷ []) (counter (codes "j") 0) ≡ None
unbound = refl

-- m[1][2] of m[2][3] is at offset 5, and there is no m[1][3]
row_major : IsOffset [] (2 ∷ 3 ∷ []) (whole 1 0 ∷ whole 2 0 ∷ []) 5
row_major = (1, 2, refl, omega arith, (2, 0, refl, omega arith, refl, refl), refl)

number_once : (i j : ℕ) → Some (pos i) ≡ Some (pos j) → i ≡ j
number_once i j e = cc

outside : (k : ℕ) → IsOffset [] (2 ∷ 3 ∷ []) (whole 1 0 ∷ whole 3 0 ∷ []) k → ⊥
outside k (i, rest, is, below, (j, none, js, under, last, e), f) =
    let three : 3 ≡ j = number_once 3 j js in
    omega (arith, three, under)

-- Parts of trees.
abbrev fix_type : ℕ → ℕ → Mode → FixType
fix_type w f mode = record { shape = record { w = w; f = f }; mode = mode }

abbrev fix : ℕ → ℕ → Mode → SigType
fix w f mode = sig.Fix (fix_type w f mode)

shape_of_8 : (f : ℕ) → f ≤ 8 → IsShape (record { w = 8; f = f })
shape_of_8 f within =
    record { width = record { narrowest = omega arith; widest = omega arith }; places = within }

abbrev typed : List ℕ → List ℕ → SigType → Decl
typed name dims ty = record { name = name; at = 0; dims = dims; ty = ty }

abbrev named : List ℕ → Place
named name = record { name = name; at = 0; subs = [] }

abbrev now : List ℕ → Expr
now name = read (named name) None

abbrev before : List ℕ → Expr
before name = read (named name) (Some (whole 1 0))

abbrev number : Bool → ℕ → Expr
number negative n = literal (Number negative n 0 0)

abbrev site : Instance → Func → Site
site i f = record { instance = i; function = f; indices = [] }

-- Two instances of one function: `p = acc(a); q = acc(b);` at the bytes 70 and 80.
abbrev byte : SigType
byte = fix 8 0 Trunc

abbrev sum : Expr
sum = binary 0 op.Add (before (codes "y")) (now (codes "x"))

abbrev acc : Func
acc =
    record {
      name = codes "acc";
      at = 5;
      params = typed (codes "x") [] byte ∷ [];
      results = typed (codes "y") [] byte ∷ [];
      locals = [];
      items = item (equation (named (codes "y")) sum) no_item;
    }

abbrev two_calls : Items
two_calls =
    item (call (named (codes "p") ∷ []) (codes "acc") (now (codes "a") ∷ []) 70)
    (item (call (named (codes "q") ∷ []) (codes "acc") (now (codes "b") ∷ []) 80) no_item)

abbrev pair : Func
pair =
    record {
      name = codes "main";
      at = 40;
      params = typed (codes "a") [] byte ∷ typed (codes "b") [] byte ∷ [];
      results = typed (codes "p") [] byte ∷ typed (codes "q") [] byte ∷ [];
      locals = [];
      items = two_calls;
    }

abbrev two : Program
two = record { tops = function acc ∷ function pair ∷ [] }

abbrev first : Instance
first = inside main (record { at = 70; turns = [] })

abbrev second : Instance
second = inside main (record { at = 80; turns = [] })

second_is : IsInstance two second acc
second_is =
    inside_is (main_is refl)
    (record {
      places = named (codes "q") ∷ [];
      name = codes "acc";
      args = now (codes "b") ∷ [];
      indices = [];
      occurs = inr (inl (refl, refl));
      turns = refl;
      named = refl;
    })

second_call : Call two (site main pair)
second_call =
    record {
      places = named (codes "q") ∷ [];
      name = codes "acc";
      args = now (codes "b") ∷ [];
      at = 80;
      callee = acc;
      found = record { instance = main_is refl; occurs = inr (inl (refl, refl)) };
      named = refl;
    }

-- the second sum's parameter is b, q is the second sum's result
second_parameter : IsDefined two (element second 0 0) (value (site main pair) (now (codes "b")) byte)
unfolding second_call
second_parameter =
    argument second_call 0 (typed (codes "x") [] byte) (record { parameter = refl; argument = refl }) refl refl

second_result : IsDefined two (element main 3 0) (same (element second 1 0) byte byte)
unfolding second_call
second_result =
    result (site main pair) second_call 0 3 0 (typed (codes "y") [] byte) (typed (codes "q") [] byte)
    (named (codes "q")) (record { result = refl; taken = refl }) refl (record { named = refl; placed = refl }) refl

second_equation : IsDefined two (element second 1 0) (value (site second acc) sum byte)
second_equation =
    equated (named (codes "y")) 1 0 (typed (codes "y") [] byte)
    (record { instance = second_is; occurs = inl (refl, refl) }) (record { named = refl; placed = refl }) refl

-- 10 at sample 0 and 20 at sample 1 are 30, in the second instance
second_value : (words : Words)
    → words (element second 1 0) (pos 0) ≡ pos 10
    → words (element second 0 0) (pos 1) ≡ pos 20
    → IsValue two (site second acc) words 1 sum byte (pos 30)
second_value words y x = (
  pos 10,
  pos 20,
  signal 1 0 1 (typed (codes "y") [] byte) (record { named = refl; placed = refl }) (delay refl (omega arith)) refl
      (sym y),
  signal 0 0 0 (typed (codes "x") [] byte) (record { named = refl; placed = refl }) no_delay refl (sym x),
  record {
    shape = shape_of_8 0 (omega arith);
    fitted =
        record { word = record { low = omega (arith, ints); high = omega (arith, ints) }; congruent = (pos 0, refl) };
  },
)

-- Functions of one equation, over words.
abbrev one : List Decl → List Decl → List Decl → Items → Func
one params results locals items =
    record { name = codes "main"; at = 0; params = params; results = results; locals = locals; items = items }

abbrev alone : Func → Program
alone f = record { tops = function f ∷ [] }

-- a parameter of main at the same sample
abbrev Reads : Func → List ℕ → SigType → Words → ℕ → ℤ → Type 0
Reads f name ty words n v = IsRead (alone f) (site main f) words n (named name) None ty v

-- `y = if x > 3 -> 3 || x < -3 -> -3 || x fi;`
abbrev clamp : Expr
clamp =
    choose 0
    (branch (binary 0 op.Gt (now (codes "x")) (number false 3)) (number false 3)
    (branch (binary 0 op.Lt (now (codes "x")) (number true 3)) (number true 3) no_branch)) (now (codes "x"))

abbrev clamped : Func
clamped =
    one (typed (codes "x") [] byte ∷ []) (typed (codes "y") [] byte ∷ []) []
    (item (equation (named (codes "y")) clamp) no_item)

three : IsValue (alone clamped) (site main clamped) (λ e n. pos 0) 0 (number false 3) byte (pos 3)
three = record {
  nearest = record { below = omega (arith, ints); above = omega (arith, ints) };
  word = record { low = omega (arith, ints); high = omega (arith, ints) };
}

below_three : IsValue (alone clamped) (site main clamped) (λ e n. pos 0) 0 (number true 3) byte (negsuc 2)
below_three = record {
  nearest = record { below = omega (arith, ints); above = omega (arith, ints) };
  word = record { low = omega (arith, ints); high = omega (arith, ints) };
}

x_read : (words : Words) (v : ℤ) → words (element main 0 0) (pos 0) ≡ v → Reads clamped (codes "x") byte words 0 v
x_read words v is =
    signal 0 0 0 (typed (codes "x") [] byte) (record { named = refl; placed = refl }) no_delay refl (sym is)

-- -9 becomes -3
clamp_low : (words : Words)
    → words (element main 0 0) (pos 0) ≡ negsuc 8
    → IsValue (alone clamped) (site main clamped) words 0 clamp byte (negsuc 2)
clamp_low words is =
    let x : Reads clamped (codes "x") byte words 0 (negsuc 8) = x_read words (negsuc 8) is in
    let second_arm : IsChosen (alone clamped) (site main clamped) words 0
    (branch (binary 0 op.Lt (now (codes "x")) (number true 3)) (number true 3) no_branch) byte (negsuc 8)
    (negsuc 2) = (
      pos 1,
      negsuc 2,
      negsuc 8,
      (negsuc 8, negsuc 2, x, below_three, inl (omega (arith, ints), refl)),
      below_three,
      refl,
      inl (λ e. cc, refl),
    )
    in (
      negsuc 8,
      x,
      (
        pos 0,
        pos 3,
        negsuc 2,
        (negsuc 8, pos 3, x, three, inr (λ h. omega (arith, ints, h), refl)),
        three,
        second_arm,
        inr (refl, refl),
      ),
    )

-- `y = fix<8,0>(x); z = fix<8,0,round>(x);` of the raw words 384 and -384 of `fix<16,8>`
abbrev casts : Func
casts =
    one (typed (codes "x") [] (fix 16 8 Trunc) ∷ [])
    (typed (codes "y") [] byte ∷ typed (codes "z") [] (fix 8 0 Round) ∷ []) [] no_item

abbrev Casts : Mode → ℤ → ℤ → Type 0
Casts mode a v =
    (words : Words)
    → words (element main 0 0) (pos 0) ≡ a
    → IsValue (alone casts) (site main casts) words 0 (cast 0 (fix_type 8 0 mode) (now (codes "x"))) (fix 8 0 mode) v

cast_value : (mode : Mode) (a v : ℤ) → IsForm a (record { shift = pos 8; mode = mode; width = 8 }) v → Casts mode a v
cast_value mode a v form words is = (
  refl,
  (
    a,
    signal 0 0 0 (typed (codes "x") [] (fix 16 8 Trunc)) (record { named = refl; placed = refl }) no_delay refl
        (sym is),
    record { shape = shape_of_8 0 (omega arith); conv = form },
  ),
)

-- a word of 8 bits is its own wrapped word
wrapped : (v : ℤ) → IsWord 8 v → IsWrap v 8 v
wrapped v word = record { word = word; congruent = (pos 0, omega (arith, ints)) }

cast_down : Casts Trunc (pos 384) (pos 1)
cast_down =
    cast_value Trunc (pos 384) (pos 1)
    (record {
      whole = pos 1;
      scaled = record { below = omega (arith, ints); above = omega (arith, ints) };
      fitted = wrapped (pos 1) (record { low = omega (arith, ints); high = omega (arith, ints) });
    })

cast_near : Casts Round (pos 384) (pos 2)
cast_near =
    cast_value Round (pos 384) (pos 2)
    (record {
      whole = pos 2;
      scaled = record { below = omega (arith, ints); above = omega (arith, ints) };
      fitted = wrapped (pos 2) (record { low = omega (arith, ints); high = omega (arith, ints) });
    })

cast_down_below : Casts Trunc (negsuc 383) (negsuc 1)
cast_down_below =
    cast_value Trunc (negsuc 383) (negsuc 1)
    (record {
      whole = negsuc 1;
      scaled = record { below = omega (arith, ints); above = omega (arith, ints) };
      fitted = wrapped (negsuc 1) (record { low = omega (arith, ints); high = omega (arith, ints) });
    })

cast_near_below : Casts Round (negsuc 383) (negsuc 0)
cast_near_below =
    cast_value Round (negsuc 383) (negsuc 0)
    (record {
      whole = negsuc 0;
      scaled = record { below = omega (arith, ints); above = omega (arith, ints) };
      fitted = wrapped (negsuc 0) (record { low = omega (arith, ints); high = omega (arith, ints) });
    })

-- `y = a * b; z = a * b;` of words of `fix<8,4>`
abbrev product : Expr
product = binary 0 op.Mul (now (codes "a")) (now (codes "b"))

abbrev products : Func
products =
    one (typed (codes "a") [] (fix 8 4 Trunc) ∷ typed (codes "b") [] (fix 8 4 Trunc) ∷ [])
    (typed (codes "y") [] (fix 8 4 Trunc) ∷ typed (codes "z") [] (fix 8 4 Round) ∷ []) [] no_item

abbrev Products : Mode → ℤ → ℤ → ℤ → Type 0
Products mode a b v =
    (words : Words)
    → words (element main 0 0) (pos 0) ≡ a
    → words (element main 1 0) (pos 0) ≡ b
    → IsValue (alone products) (site main products) words 0 product (fix 8 4 mode) v

product_value : (mode : Mode) (a b v : ℤ)
    → IsForm (a *ℤ b) (record { shift = pos 4; mode = mode; width = 8 }) v
    → Products mode a b v
product_value mode a b v form words a_is b_is = (
  a,
  b,
  signal 0 0 0 (typed (codes "a") [] (fix 8 4 Trunc)) (record { named = refl; placed = refl }) no_delay refl (sym a_is),
  signal 1 0 0 (typed (codes "b") [] (fix 8 4 Trunc)) (record { named = refl; placed = refl }) no_delay refl (sym b_is),
  record { shape = shape_of_8 4 (omega arith); conv = form },
)

product_down : Products Trunc (negsuc 0) (pos 8) (negsuc 0)
product_down =
    product_value Trunc (negsuc 0) (pos 8) (negsuc 0)
    (record {
      whole = negsuc 0;
      scaled = record { below = omega (arith, ints); above = omega (arith, ints) };
      fitted = wrapped (negsuc 0) (record { low = omega (arith, ints); high = omega (arith, ints) });
    })

product_near : Products Round (negsuc 0) (pos 8) (pos 0)
product_near =
    product_value Round (negsuc 0) (pos 8) (pos 0)
    (record {
      whole = pos 0;
      scaled = record { below = omega (arith, ints); above = omega (arith, ints) };
      fitted = wrapped (pos 0) (record { low = omega (arith, ints); high = omega (arith, ints) });
    })

-- the exact product 16129 loses four bits on the right, and wraps
product_wraps : Products Trunc (pos 127) (pos 127) (negsuc 15)
product_wraps =
    product_value Trunc (pos 127) (pos 127) (negsuc 15)
    (record {
      whole = pos 1008;
      scaled = record { below = omega (arith, ints); above = omega (arith, ints) };
      fitted =
          record { word = record { low = omega (arith, ints); high = omega (arith, ints) }; congruent = (pos 4, refl) };
    })

-- `y = x + 100; z = x + 100;` where y saturates and z wraps
abbrev raised : Expr
raised = binary 0 op.Add (now (codes "x")) (number false 100)

abbrev sums : Func
sums =
    one (typed (codes "x") [] byte ∷ []) (typed (codes "y") [] (fix 8 0 Sat) ∷ typed (codes "z") [] byte ∷ []) []
    (item (equation (named (codes "y")) raised) (item (equation (named (codes "z")) raised) no_item))

abbrev Sums : Mode → ℤ → ℤ → Type 0
Sums mode a v =
    (words : Words)
    → words (element main 0 0) (pos 0) ≡ a
    → IsValue (alone sums) (site main sums) words 0 raised (fix 8 0 mode) v

sum_value : (mode : Mode) (a v : ℤ) → IsFit (a +ℤ pos 100) 8 mode v → Sums mode a v
sum_value mode a v fitted words is = (
  a,
  pos 100,
  signal 0 0 0 (typed (codes "x") [] byte) (record { named = refl; placed = refl }) no_delay refl (sym is),
  record {
    nearest = record { below = omega (arith, ints); above = omega (arith, ints) };
    word = record { low = omega (arith, ints); high = omega (arith, ints) };
  },
  record { shape = shape_of_8 0 (omega arith); fitted = fitted },
)

-- 100 + 100 is 127 in y and -56 in z
sum_saturates : Sums Sat (pos 100) (pos 127)
sum_saturates =
    sum_value Sat (pos 100) (pos 127)
    (record {
      below = λ h. omega (arith, ints, h);
      above = λ h. refl;
      inside = λ word. omega (arith, ints, word.high);
    })

sum_wraps : Sums Trunc (pos 100) (negsuc 55)
sum_wraps =
    sum_value Trunc (pos 100) (negsuc 55)
    (record { word = record { low = omega (arith, ints); high = omega (arith, ints) }; congruent = (pos 1, refl) })

-- -128 + 100 is -28 in both
low_sum_saturates : Sums Sat (negsuc 127) (negsuc 27)
low_sum_saturates =
    sum_value Sat (negsuc 127) (negsuc 27)
    (record { below = λ h. omega (arith, ints, h); above = λ h. omega (arith, ints, h); inside = λ word. refl })

low_sum_wraps : Sums Trunc (negsuc 127) (negsuc 27)
low_sum_wraps =
    sum_value Trunc (negsuc 127) (negsuc 27)
    (wrapped (negsuc 27) (record { low = omega (arith, ints); high = omega (arith, ints) }))

-- `q = x; p = q; y = p@1; q@@1 = 7; p@@1 = 2;`: p has a past of its own
abbrev chained : Func
chained =
    one (typed (codes "x") [] byte ∷ []) (typed (codes "y") [] byte ∷ [])
    (typed (codes "p") [] byte ∷ typed (codes "q") [] byte ∷ [])
    (item (equation (named (codes "y")) (before (codes "p")))
    (item (initial (named (codes "q")) (whole 1 0) (Number false 7 0 0))
    (item (initial (named (codes "p")) (whole 1 0) (Number false 2 0 0)) no_item)))

p_preset : IsPreset (alone chained) (element main 2 0) 1 (Number false 2 0 0) byte
p_preset =
    record {
      site = site main chained;
      place = named (codes "p");
      amount = whole 1 0;
      declaration = 2;
      decl = typed (codes "p") [] byte;
      offset = 0;
      found = record { instance = main_is refl; occurs = inr (inr (inl (refl, refl))) };
      signal = record { named = refl; placed = refl };
      is = refl;
      sample = refl;
      typed = refl;
    }

-- `(i : 0 .. 3) :: begin a[i] = x; end; a[3] = x;` defines a[3] in the loop's last turn, and once more after the loop
abbrev at_index : Manifest → Place
at_index m = record { name = codes "a"; at = 0; subs = m ∷ [] }

abbrev turns : Func
turns =
    one (typed (codes "x") [] byte ∷ []) (typed (codes "y") [] byte ∷ []) (typed (codes "a") (4 ∷ []) byte ∷ [])
    (item (loop (codes "i") (whole 0 0) (whole 3 0)
    (item (equation (at_index (counter (codes "i") 0)) (now (codes "x"))) no_item) 0)
    (item (equation (at_index (whole 3 0)) (now (codes "x"))) no_item))

abbrev last_turn : Site
last_turn = record { instance = main; function = turns; indices = (codes "i", pos 3) ∷ [] }

in_the_loop : IsDefined (alone turns) (element main 2 3) (value last_turn (now (codes "x")) byte)
in_the_loop =
    equated (at_index (counter (codes "i") 0)) 2 3 (typed (codes "a") (4 ∷ []) byte)
    (record {
      instance = main_is refl;
      occurs =
          inl (
            pos 3,
            record {
              first = pos 0;
              last = pos 3;
              from = refl;
              to = refl;
              begun = omega (arith, ints);
              ended = omega (arith, ints);
            },
            inl (refl, refl),
          );
    })
    (record { named = refl; placed = (3, 0, refl, omega arith, refl, refl) }) refl

after_the_loop : IsDefined (alone turns) (element main 2 3) (value (site main turns) (now (codes "x")) byte)
after_the_loop =
    equated (at_index (whole 3 0)) 2 3 (typed (codes "a") (4 ∷ []) byte)
    (record { instance = main_is refl; occurs = inr (inl (refl, refl)) })
    (record { named = refl; placed = (3, 0, refl, omega arith, refl, refl) }) refl

-- What has no value: `2 * 3`, `x & x`, a number as a condition, 1.0 in `fix<16,15>`, a delay of 1024.
no_product : (words : Words) (v : ℤ)
    → IsValue (alone clamped) (site main clamped) words 0 (binary 0 op.Mul (number false 2) (number false 3)) byte v
    → ⊥
no_product words v h = h

no_conjunction : (words : Words) (v : ℤ)
    → IsValue (alone clamped) (site main clamped) words 0 (binary 0 op.And (now (codes "x")) (now (codes "x"))) byte v
    → ⊥
no_conjunction words v h = h

no_condition : (words : Words) (v : ℤ)
    → IsValue (alone clamped) (site main clamped) words 0
    (choose 0 (branch (number false 1) (number false 1) no_branch) (number false 2)) byte v
    → ⊥
no_condition words v (_, _, (_, _, _, condition, _, _, _)) = condition

one_is_too_great : (v : ℤ) → IsRawWord (Number false 10 1 0) (fix 16 15 Trunc) v → ⊥
one_is_too_great v is = omega (arith, ints, is.nearest.below, is.nearest.above, is.word.high)

least_word : IsRawWord (Number true 10 1 0) (fix 16 15 Trunc) (negsuc 32767)
least_word = record {
  nearest = record { below = omega (arith, ints); above = omega (arith, ints) };
  word = record { low = omega (arith, ints); high = omega (arith, ints) };
}

too_long_ago : (k : ℕ) → LooksBack [] (Some (whole 1024 0)) k → ⊥
too_long_ago k (delay is most) =
    let same : 1024 ≡ k = number_once 1024 k is in
    omega (arith, same, most)

-- `y = y + x;` depends on itself without a delay
abbrev looped : Func
looped =
    one (typed (codes "x") [] byte ∷ []) (typed (codes "y") [] byte ∷ []) []
    (item (equation (named (codes "y")) (binary 0 op.Add (now (codes "y")) (now (codes "x")))) no_item)

itself : DependsNow (alone looped) (element main 1 0) (element main 1 0)
itself =
    direct (
      value (site main looped) (binary 0 op.Add (now (codes "y")) (now (codes "x"))) byte,
      equated (named (codes "y")) 1 0 (typed (codes "y") [] byte)
          (record { instance = main_is refl; occurs = inl (refl, refl) }) (record { named = refl; placed = refl }) refl,
      inl (reads_at 1 0 (typed (codes "y") [] byte) (record { named = refl; placed = refl }) no_delay refl),
    )

-- a loop whose first bound is the greater has no turn
no_turn : (turn : ℤ) → IsTurn [] (whole 3 0) (whole 0 0) turn → ⊥
no_turn turn is =
    let first_is : pos 3 ≡ is.first = bound_once is.from in
    let last_is : pos 0 ≡ is.last = bound_once is.to in
    omega (arith, ints, first_is, last_is, is.begun, is.ended)
  where
    bound_once : {x y : ℤ} → Some x ≡ Some y → x ≡ y
    bound_once e = cc
