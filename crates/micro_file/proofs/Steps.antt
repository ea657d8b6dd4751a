-- Several steps, one after another: each was done where all were, and all are done where each is.
use Rattle.std.proofs.Common.{◌≡◌, Result, Ok, refl}
use Rattle.micro_file.specs.declared.misread.Misread.{Misread}
use Rattle.micro_file.specs.Private.Fields.{◌>>=◌}
use Rattle.micro_file.proofs.Readers.{bound}

pub bound2 : {A B Y : Type 0} (f1 : Result A Misread) (f2 : A → Result B Misread) (h : A → B → Result Y Misread) (y : Y)
    → (f1 >>= λ a. f2 a >>= λ b. h a b) ≡ Ok y
    → (a : A) × (b : B) × (f1 ≡ Ok a) × (f2 a ≡ Ok b) × (h a b ≡ Ok y)
bound2 f1 f2 h y e =
    let p = bound f1 (λ a. f2 a >>= λ b. h a b) y e in
    let q = bound (f2 p.0) (λ b. h p.0 b) y p.2 in
    (p.0, q.0, p.1, q.1, q.2)

pub joined2 :
    {A B Y : Type 0} (f1 : Result A Misread) (f2 : A → Result B Misread) (h : A → B → Result Y Misread) (a : A) (b : B)
    → f1 ≡ Ok a
    → f2 a ≡ Ok b
    → (f1 >>= λ a. f2 a >>= λ b. h a b) ≡ h a b
joined2 f1 f2 h a b e1 e2 = rw (e1, e2) refl

pub bound3 :
    {A B C Y : Type 0} (f1 : Result A Misread) (f2 : A → Result B Misread) (f3 : A → B → Result C Misread)
    (h : A → B → C → Result Y Misread) (y : Y)
    → (f1 >>= λ a. f2 a >>= λ b. f3 a b >>= λ c. h a b c) ≡ Ok y
    → (a : A) × (b : B) × (c : C) × (f1 ≡ Ok a) × (f2 a ≡ Ok b) × (f3 a b ≡ Ok c) × (h a b c ≡ Ok y)
bound3 f1 f2 f3 h y e =
    let p = bound f1 (λ a. f2 a >>= λ b. f3 a b >>= λ c. h a b c) y e in
    let q = bound2 (f2 p.0) (f3 p.0) (h p.0) y p.2 in
    (p.0, q.0, q.1, p.1, q.2, q.3, q.4)

pub joined3 :
    {A B C Y : Type 0} (f1 : Result A Misread) (f2 : A → Result B Misread) (f3 : A → B → Result C Misread)
    (h : A → B → C → Result Y Misread) (a : A) (b : B) (c : C)
    → f1 ≡ Ok a
    → f2 a ≡ Ok b
    → f3 a b ≡ Ok c
    → (f1 >>= λ a. f2 a >>= λ b. f3 a b >>= λ c. h a b c) ≡ h a b c
joined3 f1 f2 f3 h a b c e1 e2 e3 = rw (e1, e2, e3) refl

pub bound4 :
    {A B C D Y : Type 0} (f1 : Result A Misread) (f2 : A → Result B Misread) (f3 : A → B → Result C Misread)
    (f4 : A → B → C → Result D Misread) (h : A → B → C → D → Result Y Misread) (y : Y)
    → (f1 >>= λ a. f2 a >>= λ b. f3 a b >>= λ c. f4 a b c >>= λ d. h a b c d) ≡ Ok y
    → (a : A)
    × (b : B)
    × (c : C)
    × (d : D)
    × (f1 ≡ Ok a)
    × (f2 a ≡ Ok b)
    × (f3 a b ≡ Ok c)
    × (f4 a b c ≡ Ok d)
    × (h a b c d ≡ Ok y)
bound4 f1 f2 f3 f4 h y e =
    let p = bound f1 (λ a. f2 a >>= λ b. f3 a b >>= λ c. f4 a b c >>= λ d. h a b c d) y e in
    let q = bound3 (f2 p.0) (f3 p.0) (f4 p.0) (h p.0) y p.2 in
    (p.0, q.0, q.1, q.2, p.1, q.3, q.4, q.5, q.6)

pub joined4 :
    {A B C D Y : Type 0} (f1 : Result A Misread) (f2 : A → Result B Misread) (f3 : A → B → Result C Misread)
    (f4 : A → B → C → Result D Misread) (h : A → B → C → D → Result Y Misread) (a : A) (b : B) (c : C) (d : D)
    → f1 ≡ Ok a
    → f2 a ≡ Ok b
    → f3 a b ≡ Ok c
    → f4 a b c ≡ Ok d
    → (f1 >>= λ a. f2 a >>= λ b. f3 a b >>= λ c. f4 a b c >>= λ d. h a b c d) ≡ h a b c d
joined4 f1 f2 f3 f4 h a b c d e1 e2 e3 e4 = rw (e1, e2, e3, e4) refl

pub bound5 :
    {A B C D E Y : Type 0} (f1 : Result A Misread) (f2 : A → Result B Misread) (f3 : A → B → Result C Misread)
    (f4 : A → B → C → Result D Misread) (f5 : A → B → C → D → Result E Misread)
    (h : A → B → C → D → E → Result Y Misread) (y : Y)
    → (f1 >>= λ a. f2 a >>= λ b. f3 a b >>= λ c. f4 a b c >>= λ d. f5 a b c d >>= λ e. h a b c d e) ≡ Ok y
    → (a : A)
    × (b : B)
    × (c : C)
    × (d : D)
    × (e : E)
    × (f1 ≡ Ok a)
    × (f2 a ≡ Ok b)
    × (f3 a b ≡ Ok c)
    × (f4 a b c ≡ Ok d)
    × (f5 a b c d ≡ Ok e)
    × (h a b c d e ≡ Ok y)
bound5 f1 f2 f3 f4 f5 h y e =
    let p = bound f1 (λ a. f2 a >>= λ b. f3 a b >>= λ c. f4 a b c >>= λ d. f5 a b c d >>= λ e. h a b c d e) y e in
    let q = bound4 (f2 p.0) (f3 p.0) (f4 p.0) (f5 p.0) (h p.0) y p.2 in
    (p.0, q.0, q.1, q.2, q.3, p.1, q.4, q.5, q.6, q.7, q.8)

pub joined5 :
    {A B C D E Y : Type 0} (f1 : Result A Misread) (f2 : A → Result B Misread) (f3 : A → B → Result C Misread)
    (f4 : A → B → C → Result D Misread) (f5 : A → B → C → D → Result E Misread)
    (h : A → B → C → D → E → Result Y Misread) (a : A) (b : B) (c : C) (d : D) (e : E)
    → f1 ≡ Ok a
    → f2 a ≡ Ok b
    → f3 a b ≡ Ok c
    → f4 a b c ≡ Ok d
    → f5 a b c d ≡ Ok e
    → (f1 >>= λ a. f2 a >>= λ b. f3 a b >>= λ c. f4 a b c >>= λ d. f5 a b c d >>= λ e. h a b c d e) ≡ h a b c d e
joined5 f1 f2 f3 f4 f5 h a b c d e e1 e2 e3 e4 e5 = rw (e1, e2, e3, e4, e5) refl

pub bound6 :
    {A B C D E F Y : Type 0} (f1 : Result A Misread) (f2 : A → Result B Misread) (f3 : A → B → Result C Misread)
    (f4 : A → B → C → Result D Misread) (f5 : A → B → C → D → Result E Misread)
    (f6 : A → B → C → D → E → Result F Misread) (h : A → B → C → D → E → F → Result Y Misread) (y : Y)
    → (f1
    >>= λ a.
    f2 a >>= λ b. f3 a b >>= λ c. f4 a b c >>= λ d. f5 a b c d >>= λ e. f6 a b c d e >>= λ f. h a b c d e f)
    ≡ Ok y
    → (a : A)
    × (b : B)
    × (c : C)
    × (d : D)
    × (e : E)
    × (f : F)
    × (f1 ≡ Ok a)
    × (f2 a ≡ Ok b)
    × (f3 a b ≡ Ok c)
    × (f4 a b c ≡ Ok d)
    × (f5 a b c d ≡ Ok e)
    × (f6 a b c d e ≡ Ok f)
    × (h a b c d e f ≡ Ok y)
bound6 f1 f2 f3 f4 f5 f6 h y e =
    let p =
    bound f1
    (λ a. f2 a >>= λ b. f3 a b >>= λ c. f4 a b c >>= λ d. f5 a b c d >>= λ e. f6 a b c d e >>= λ f. h a b c d e f) y
    e in
    let q = bound5 (f2 p.0) (f3 p.0) (f4 p.0) (f5 p.0) (f6 p.0) (h p.0) y p.2 in
    (p.0, q.0, q.1, q.2, q.3, q.4, p.1, q.5, q.6, q.7, q.8, q.9, q.10)

pub joined6 :
    {A B C D E F Y : Type 0} (f1 : Result A Misread) (f2 : A → Result B Misread) (f3 : A → B → Result C Misread)
    (f4 : A → B → C → Result D Misread) (f5 : A → B → C → D → Result E Misread)
    (f6 : A → B → C → D → E → Result F Misread) (h : A → B → C → D → E → F → Result Y Misread) (a : A) (b : B) (c : C)
    (d : D) (e : E) (f : F)
    → f1 ≡ Ok a
    → f2 a ≡ Ok b
    → f3 a b ≡ Ok c
    → f4 a b c ≡ Ok d
    → f5 a b c d ≡ Ok e
    → f6 a b c d e ≡ Ok f
    → (f1
    >>= λ a.
    f2 a >>= λ b. f3 a b >>= λ c. f4 a b c >>= λ d. f5 a b c d >>= λ e. f6 a b c d e >>= λ f. h a b c d e f)
    ≡ h a b c d e f
joined6 f1 f2 f3 f4 f5 f6 h a b c d e f e1 e2 e3 e4 e5 e6 = rw (e1, e2, e3, e4, e5, e6) refl
