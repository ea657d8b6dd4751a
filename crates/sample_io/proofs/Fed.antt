-- What callers see of rows that come in pieces, and what lies in them.
use Rattle.std.proofs.Common.{◌≡◌, ℕ, List, [], ◌∷◌, ◌++◌, ℤ, None, IsSome, ap, sym, ◌∙◌, subst, arith, inl, inr}
use Rattle.sample_io.specs.declared.RowFault.{RowFault}
use Rattle.sample_io.specs.Pieces.{HasTaken, CanTake}
use Rattle.sample_io.specs.Private.Places.{Kept, fed_rows, HasLed, AreFed}
use Rattle.sample_io.specs.Private.Reading.{IsReader}
use Rattle.sample_io.proofs.Streams.{lines_once}
use Rattle.sample_io.proofs.Texts.{so_far_begins}

-- the bytes that callers know of have led to what is kept
pub led_of : (kept : Kept) (taken : List ℕ)
    → AreFed kept taken
    → (bytes : List ℕ) (before : List (List ℤ))
    → HasTaken (fed_rows kept taken) bytes before
    → HasLed kept bytes before
led_of kept taken are bytes before h =
    let (rows, led) = are.led h.running in
    let so = led.so_far in
    let bytes_are = sym so.bytes_are ∙ h.taken ∙ h.so_far.bytes_are in
    let same : rows ≡ before =
    lines_once kept.channels h.sound so.front so.line h.so_far.front h.so_far.line rows before bytes_are so.before
    h.so_far.before so.so_far.unended h.so_far.unended in
    subst (λ b. HasLed kept b before) h.taken (subst (HasLed kept taken) same led)

-- and the other way round
pub taken_of : (kept : Kept) (taken bytes : List ℕ) (before : List (List ℤ))
    → taken ≡ bytes
    → HasLed kept bytes before
    → HasTaken (fed_rows kept taken) bytes before
taken_of kept taken bytes before is h =
    let so = h.so_far in
    record {
      sound = h.sound;
      running = h.running;
      taken = is;
      so_far = record {
        front = so.front;
        line = so.line;
        bytes_are = so.bytes_are;
        before = so.before;
        unended = so.so_far.unended;
        begins = so_far_begins kept.channels h.sound so.line h.words kept.reader.state so.so_far;
      };
    }

-- fewer bytes than there are addresses were taken
pub reader_of : (kept : Kept) (taken : List ℕ) (count : ℕ)
    → AreFed kept taken
    → kept.fault ≡ None
    → CanTake (fed_rows kept taken) count
    → IsReader kept.channels kept.reader
reader_of kept taken count are running (inl fault) =
    let none : IsSome {T = RowFault} None = subst IsSome running fault in absurd (cc)
reader_of kept taken count are running (inr (bytes, before, h, few)) =
    let led = led_of kept taken are bytes before h in
    (bytes, before, led.words, omega (arith, few), led.so_far)

-- where a byte more leads on from all bytes
module _ (old new : Kept) (taken now : List ℕ) (byte : ℕ) (next : List (List ℤ) → List (List ℤ))
    (are : AreFed old taken) (is : now ≡ taken ++ byte ∷ [])
    (leads : (bytes : List ℕ) (before : List (List ℤ))
    → HasLed old bytes before
    → HasLed new (bytes ++ byte ∷ []) (next before)) where
  pub taken_more : (bytes : List ℕ) (before : List (List ℤ))
      → HasTaken (fed_rows old taken) bytes before
      → HasTaken (fed_rows new now) (bytes ++ byte ∷ []) (next before)
  taken_more bytes before h =
      taken_of new now (bytes ++ byte ∷ []) (next before) (is ∙ ap (λ b. b ++ byte ∷ []) h.taken)
      (leads bytes before (led_of old taken are bytes before h))

  pub led_more : old.fault ≡ None → (before : List (List ℤ)) × HasLed new now before
  led_more running =
      let (before, led) = are.led running in
      (next before, subst (λ b. HasLed new b (next before)) (sym is) (leads taken before led))
