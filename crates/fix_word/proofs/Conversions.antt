-- A word has one word in another shape.
use Rattle.std.proofs.Common.{◌≡◌, subst, ◌∙◌, ℤ, pos, ◌-ℤ◌}
use Rattle.fix_word.specs.Words.{IsWord, IsWidth, IsConv}
use Rattle.fix_word.specs.Values.{form_of, conv_of}
use Rattle.fix_word.specs.declared.types.Shape.{Shape}
use Rattle.fix_word.specs.declared.types.Mode.{Mode}
use Rattle.fix_word.proofs.Forms.{form_is, form_word, form_unique}

pub conv_is : (m places : ℤ) (shape : Shape) (mode : Mode)
    → IsWidth shape.w
    → IsConv m places shape mode (conv_of m places shape mode)
conv_is m places shape mode h = form_is m (record { shift = places -ℤ pos shape.f; mode = mode; width = shape.w }) h

pub conv_word : (m places : ℤ) (shape : Shape) (mode : Mode)
    → IsWidth shape.w
    → IsWord shape.w (conv_of m places shape mode)
conv_word m places shape mode h = form_word m (record { shift = places -ℤ pos shape.f; mode = mode; width = shape.w }) h

pub conv_unique : (m places : ℤ) (shape : Shape) (mode : Mode) (r r' : ℤ)
    → IsWidth shape.w
    → IsConv m places shape mode r
    → IsConv m places shape mode r'
    → r ≡ r'
conv_unique m places shape mode r r' h x y =
    form_unique m (record { shift = places -ℤ pos shape.f; mode = mode; width = shape.w }) r r' h x y

-- the word by the shift of a machine number
pub conv_as : (m m' places shift : ℤ) (shape : Shape) (mode : Mode) (r r' : ℤ)
    → m' ≡ m
    → shift ≡ places -ℤ pos shape.f
    → r' ≡ r
    → r ≡ form_of m' (record { shift = shift; mode = mode; width = shape.w })
    → r' ≡ conv_of m places shape mode
conv_as m m' places shift shape mode r r' e1 e2 e3 e4 =
    let known : r ≡ form_of m (record { shift = shift; mode = mode; width = shape.w }) =
    subst (λ (q : ℤ). r ≡ form_of q (record { shift = shift; mode = mode; width = shape.w })) e1 e4 in
    e3 ∙ subst (λ (s : ℤ). r ≡ form_of m (record { shift = s; mode = mode; width = shape.w })) e2 known
