-- One lemma for each part of a word and each kind of byte behind it.
use Rattle.std.proofs.Common.{rules, ◌≡◌, ◌∙◌, ℤ, arith, FitsSigned, w64, to_z, of_z}
use Rattle.std.proofs.lemmas.Int.{to_z-of_z}
use Rattle.sample_io.proofs.Bytes.{magnitude_small, minus_byte, comma_byte, cr_byte, lf_byte, crlf_byte}
use Rattle.sample_io.proofs.Bytes.{byte_behind_nothing, byte_behind_minus, byte_behind_digits, byte_behind_cr}
use Rattle.sample_io.proofs.read.LineState.take.Goals as goal

-- a word is what was passed for it
worth : (word value : ℤ) → FitsSigned w64 word → word ≡ value → to_z w64 (of_z w64 word) ≡ value
worth word value fits is = to_z-of_z w64 word fits ∙ is

pub returns-then-byte-eq45 : goal.returns-then-byte-eq45
returns-then-byte-eq45 c = λ line words h.
    minus_byte c.args.channels.now line words c.args.self.now h c.args.byte c.in-Empty.is c.if-byte-eq45.true

pub returns-else-byte-eq45 : goal.returns-else-byte-eq45
returns-else-byte-eq45 c = λ line words h.
    byte_behind_nothing c.args.channels.now c.requires.channels line words c.args.self.now h c.args.byte _
    c.digit.result c.digit.new.self
    c.in-Empty.is c.if-byte-eq45.false (record { taken = c.digit.ensures.taken; none = c.digit.ensures.refused })

pub returns-in-Minus : goal.returns-in-Minus
returns-in-Minus c = λ line words h.
    byte_behind_minus c.args.channels.now c.requires.channels line words c.args.self.now h c.args.byte _
    c.digit-in-Minus.result c.digit-in-Minus.new.self
    c.in-Minus.is (record { taken = c.digit-in-Minus.ensures.taken; none = c.digit-in-Minus.ensures.refused })

pub signed_word-word-requires : goal.signed_word-word-requires
signed_word-word-requires c =
    let small =
    magnitude_small c.args.channels.now c.requires.channels c.requires.state.0 c.requires.state.1 c.args.self.now
    c.requires.state.2
    c.in-Digits.negative c.in-Digits.magnitude c.in-Digits.is in
    omega (arith, small)

pub digit-requires-in-Digits : goal.digit-requires-in-Digits
digit-requires-in-Digits c =
    magnitude_small c.args.channels.now c.requires.channels c.requires.state.0 c.requires.state.1 c.args.self.now
    c.requires.state.2
    c.in-Digits.negative c.in-Digits.magnitude c.in-Digits.is

pub returns-then-byte-eq44 : goal.returns-then-byte-eq44
returns-then-byte-eq44 c = λ line words h.
    comma_byte c.args.channels.now c.requires.channels line words c.args.self.now h c.args.byte c.in-Digits.negative
    c.in-Digits.magnitude _
    c.next_word.result c.next_word.new.self c.in-Digits.is
    (worth c.signed_word-word.result _ (search rules) c.signed_word-word.ensures) c.if-byte-eq44.true
    c.next_word.ensures.taken c.next_word.ensures.refused

pub returns-then-byte-eq13 : goal.returns-then-byte-eq13
returns-then-byte-eq13 c = λ line words h.
    cr_byte c.args.channels.now c.requires.channels line words c.args.self.now h c.args.byte c.in-Digits.negative
    c.in-Digits.magnitude _
    c.line_end.result c.line_end.new.self c.in-Digits.is
    (worth c.signed_word-word.result _ (search rules) c.signed_word-word.ensures) c.if-byte-eq13.true
    c.line_end.ensures.taken c.line_end.ensures.refused

pub returns-then-byte-eq10 : goal.returns-then-byte-eq10
returns-then-byte-eq10 c = λ line words h.
    lf_byte c.args.channels.now c.requires.channels line words c.args.self.now h c.args.byte c.in-Digits.negative
    c.in-Digits.magnitude _
    c.next_line.result c.next_line.new.self c.in-Digits.is
    (worth c.signed_word-word.result _ (search rules) c.signed_word-word.ensures) c.if-byte-eq10.true
    c.next_line.ensures.taken c.next_line.ensures.refused

pub returns-else-byte-eq10 : goal.returns-else-byte-eq10
returns-else-byte-eq10 c = λ line words h.
    byte_behind_digits c.args.channels.now c.requires.channels line words c.args.self.now h c.args.byte
    c.in-Digits.negative c.in-Digits.magnitude _
    c.digit-in-Digits.result c.digit-in-Digits.new.self c.in-Digits.is c.if-byte-eq44.false c.if-byte-eq13.false
    c.if-byte-eq10.false
    (record { taken = c.digit-in-Digits.ensures.taken; none = c.digit-in-Digits.ensures.refused })

pub returns-then-byte-eq10-2 : goal.returns-then-byte-eq10-2
returns-then-byte-eq10-2 c = λ line words h.
    crlf_byte c.args.channels.now c.requires.channels line words c.args.self.now h c.args.byte c.in-Return.word _
    c.next_line-then-byte-eq10-2.result c.next_line-then-byte-eq10-2.new.self c.in-Return.is
    (to_z-of_z w64 c.in-Return.word (search rules)) c.if-byte-eq10-2.true
    c.next_line-then-byte-eq10-2.ensures.taken c.next_line-then-byte-eq10-2.ensures.refused

pub returns-else-byte-eq10-2 : goal.returns-else-byte-eq10-2
returns-else-byte-eq10-2 c = λ line words h.
    byte_behind_cr c.args.channels.now c.requires.channels line words c.args.self.now h c.args.byte c.in-Return.word
    c.in-Return.is c.if-byte-eq10-2.false
