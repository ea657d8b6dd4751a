-- Fields are misread inside what is left, and leave no more than there was.
use Rattle.std.proofs.Common.{◌≡◌, ℕ, zero, suc, ◌+◌, ◌≤◌, Bool, true, false, List, [], ◌∷◌, ◌++◌, length, Option, Some}
use Rattle.std.proofs.Common.{None, Ok, Err, ℤ, subst, arith}
use Rattle.fix_word.specs.declared.operation.Op.{Op}
use Rattle.operations.specs.declared.units.Kind.{Kind}
use Rattle.micro_file.specs.declared.misread.Misread.{Misread}
use Rattle.micro_file.specs.declared.misread.Misread.TheVariants.{Magic, Version, Short, Field, Trailing}
use Rattle.micro_file.specs.Private.Fields.{Reading, ◌>>=◌, kept, found, many_at, each_at}
use Rattle.micro_file.specs.Private.FormAt.{FormAt}
use Rattle.micro_file.specs.Private.Places.{IsIn}

-- no more is left than there was; what was misread has a place in it
abbrev pub IsInside : {A : Type 0} → ℕ → Reading A → Type 0
IsInside size (Ok x) = length x.1 ≤ size
IsInside size (Err misread) = IsIn size misread

pub in_more : (m n : ℕ) (misread : Misread) → m ≤ n → IsIn m misread → IsIn n misread
in_more m n Magic le h = tt
in_more m n Version le h = tt
in_more m n Short le h = tt
in_more m n (Field left) le h = omega arith
in_more m n (Trailing left) le h = omega arith

pub inside_more : {A : Type 0} (m n : ℕ) (r : Reading A) → m ≤ n → IsInside m r → IsInside n r
inside_more m n (Ok x) le h = omega arith
inside_more m n (Err misread) le h = in_more m n misread le h

-- what is judged next, of what was read
pub next : {A B : Type 0} (size : ℕ) (r : Reading A) (f : A × List ℕ → Reading B)
    → IsInside size r
    → ((x : A × List ℕ) → length x.1 ≤ size → IsInside size (f x))
    → IsInside size (r >>= f)
next size (Ok x) f h g = g x h
next size (Err misread) f h g = h

-- what is read next, of what is left
pub behind : {A B : Type 0} (size : ℕ) (r : Reading A) (f : A × List ℕ → Reading B)
    → IsInside size r
    → ((x : A × List ℕ) → IsInside (length x.1) (f x))
    → IsInside size (r >>= f)
behind size r f h g = next size r f h (λ x le. inside_more (length x.1) size (f x) le (g x))

pub keeps : {A : Type 0} (size : ℕ) (left : List ℕ) (b : Bool) (x : A × List ℕ)
    → length left ≤ size
    → length x.1 ≤ size
    → IsInside size (kept left b x)
keeps size left true x le lt = lt
keeps size left false x le lt = le

pub kept_then : {A B : Type 0} (size : ℕ) (left : List ℕ) (b : Bool) (x : A × List ℕ) (f : A × List ℕ → Reading B)
    → length left ≤ size
    → IsInside size (f x)
    → IsInside size (kept left b x >>= f)
kept_then size left true x f le h = h
kept_then size left false x f le h = le

pub finds : {X B : Type 0} (size : ℕ) (left : List ℕ) (o : Option X) (f : X → Reading B)
    → length left ≤ size
    → ((x : X) → IsInside size (f x))
    → IsInside size (found left o >>= f)
finds size left None f le g = le
finds size left (Some x) f le g = g x

-- what is read, if it is allowed
pub tested_in : {A : Type 0} (left : List ℕ) (r : Reading A) (test : A → Bool)
    → IsInside (length left) r
    → IsInside (length left) (r >>= λ x. kept left (test x.0) x)
tested_in left r test h =
    next (length left) r (λ x. kept left (test x.0) x) h
    (λ x le. keeps (length left) left (test x.0) x (omega arith) le)

pub many_in : {A : Type 0} (one : List A → List ℕ → Reading A)
    → ((front : List A) (left : List ℕ) → IsInside (length left) (one front left))
    → (front : List A) (n : ℕ) (left : List ℕ)
    → IsInside (length left) (many_at one front n left)
unfolding many_at
many_in one each front zero left = omega arith
many_in one each front (suc n) left =
    behind (length left) (one front left) (λ x. many_at one (front ++ x.0 ∷ []) n x.1) (each front left)
    (λ x. many_in one each (front ++ x.0 ∷ []) n x.1)

-- a count, and so many
pub counted_in : {A : Type 0} (count_at : List ℕ → Reading ℕ) (one : List A → List ℕ → Reading A) (left : List ℕ)
    → IsInside (length left) (count_at left)
    → ((front : List A) (left : List ℕ) → IsInside (length left) (one front left))
    → IsInside (length left) (count_at left >>= λ count. many_at one [] count.0 count.1)
counted_in count_at one left count each =
    behind (length left) (count_at left) (λ n. many_at one [] n.0 n.1) count (λ n. many_in one each [] n.0 n.1)

pub each_in : {A : Type 0} (one : List A → ℕ → List ℕ → Reading (List A))
    → ((front : List A) (n : ℕ) (left : List ℕ) → IsInside (length left) (one front n left))
    → (front : List A) (first count : ℕ) (left : List ℕ)
    → IsInside (length left) (each_at one front first count left)
unfolding each_at
each_in one each front first zero left = omega arith
each_in one each front first (suc n) left =
    behind (length left) (one front first left) (λ x. each_at one x.0 (first + 1) n x.1) (each front first left)
    (λ x. each_in one each x.0 (first + 1) n x.1)

-- what is left of what was read
pub at_ok : {A : Type 0} (size : ℕ) (r : Reading A) (x : A × List ℕ) → IsInside size r → r ≡ Ok x → length x.1 ≤ size
at_ok {A} size r x h e = subst (λ (q : Reading A). IsInside size q) e h

-- ---- a form

-- the field is misread inside what is left
abbrev pub StaysInside : {A : Type 0} → (List ℕ → Reading A) → Type 0
StaysInside field = (left : List ℕ) → IsInside (length left) (field left)

-- each field is misread inside what is left
pub record InsideForm (form : FormAt) : Type 0 where
  pub period : StaysInside form.period
  pub unroll : StaysInside form.unroll
  pub channels : StaysInside form.channels
  pub width : StaysInside form.width
  pub units : StaysInside form.units
  pub kind : StaysInside form.kind
  pub latency : StaysInside form.latency
  pub gap : (latency : ℕ) → StaysInside (form.gap latency)
  pub registers : StaysInside form.registers
  pub cells : StaysInside form.cells
  pub initial : (count : ℕ) → StaysInside (form.initial count)
  pub ram : StaysInside form.ram
  pub buses : StaysInside form.buses
  pub operation : (k : Kind) → StaysInside (form.operation k)
  pub format : (op : Op) → StaysInside (form.format op)
  pub argument : (op : Op) (inputs outs : ℕ) → StaysInside (form.argument op inputs outs)
  pub named : (files : List (List ℤ)) (reads : ℕ) → StaysInside (form.named files reads)
  -- a kind and a latency take no less than the number of an acu's ram
  pub start : (left : List ℕ) (k : Kind × List ℕ) (l : ℕ × List ℕ)
      → form.kind left ≡ Ok k
      → form.latency k.1 ≡ Ok l
      → length l.1 + form.ram_length ≤ length left
