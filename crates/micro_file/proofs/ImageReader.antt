-- The reader of an image behind the version: what it reads is spelled so, and what is spelled so is read.
use Rattle.std.proofs.Common.{◌≡◌, ℕ, ◌*◌, List, [], ◌++◌, length, Ok, refl, ap, subst, ◌∙◌, append_assoc}
use Rattle.std.specs.List.{All, flat_map}
use Rattle.std.specs.Prelude.{slice_index_or}
use Rattle.micro_image.specs.declared.image.Image.{Image}
use Rattle.micro_image.specs.declared.image.Word.{Word}
use Rattle.micro_image.specs.Form.{Form, spelled_hardware}
use Rattle.micro_image.specs.Valid.{IsWordOf, IsValid}
use Rattle.micro_bits.proofs.Bits.{IsDigits}
use Rattle.micro_file.specs.Private.Fields.{Reading, many_at}
use Rattle.micro_file.specs.Private.FormAt.{FormAt}
use Rattle.micro_file.specs.Private.Hardware.{hardware_at, image_at}
use Rattle.micro_file.proofs.FormReader.{ReadsForm}
use Rattle.micro_file.proofs.HardwareReader.{IsHardware, hardware_reader}
use Rattle.micro_file.proofs.Readers.{◌⨟◌, Took, IsReader, such_reader, ok_is}
use Rattle.micro_file.proofs.Several.{all_from, grows_all, many_reader}
use Rattle.micro_file.proofs.Steps.{bound2, joined2}

-- a word is asked nothing about the others
other_words : (image : Image) (words : List Word) (word : Word)
    → IsWordOf image word
    → IsWordOf (record image { words = words }) word
other_words image words word ok = record {
  issues = ok.issues;
  issues_rise = ok.issues_rise;
  enable_count = ok.enable_count;
  enables = λ k d lt. record { unit = (ok.enables k d lt).unit; bus = (ok.enables k d lt).bus };
  enables_rise = ok.enables_rise;
  take_count = ok.take_count;
  takes = λ k d lt. record { register = (ok.takes k d lt).register; bus = (ok.takes k d lt).bus };
  takes_rise = ok.takes_rise;
}

valid_image : (hardware : Image) (words : List Word)
    → IsHardware hardware
    → length words ≡ hardware.period * hardware.unroll
    → All (IsWordOf hardware) words
    → IsValid (record hardware { words = words })
valid_image hardware words ok count all = record {
  period = ok.period;
  unroll = ok.unroll;
  input_count = ok.inputs.0;
  inputs = ok.inputs.1;
  outs = ok.outs;
  unit_count = ok.units.0;
  units = ok.units.1;
  buses = ok.buses;
  word_count = count;
  words = λ k d lt. other_words hardware words (slice_index_or words k d) (all k d lt);
}

valid_hardware : (image : Image) → IsValid image → IsHardware (record image { words = [] })
valid_hardware image ok = record {
  period = ok.period;
  unroll = ok.unroll;
  inputs = (ok.input_count, ok.inputs);
  outs = ok.outs;
  units = (ok.unit_count, ok.units);
  buses = ok.buses;
  no_words = refl;
}

-- how an image's words are spelled depends on no word
abbrev pub IsAlike : (Image → Word → List ℕ) → Type 0
IsAlike spell = (image : Image) (words : List Word) → spell (record image { words = words }) ≡ spell image

module _ {base : ℕ} {spell : Form} {form : FormAt} (is : ReadsForm base spell form)
    (word_at : Image → List ℕ → Reading Word) (spell_word : Image → Word → List ℕ) (alike : IsAlike spell_word)
    (each : (hardware : Image)
    → IsHardware hardware
    → IsReader base (IsWordOf hardware) (spell_word hardware) (word_at hardware)) where
  words_reader : (hardware : Image) (count : ℕ)
      → IsHardware hardware
      → IsReader base (λ words. (length words ≡ count) × All (IsWordOf hardware) words) (flat_map (spell_word hardware))
      (many_at (λ _. word_at hardware) [] count)
  words_reader hardware count ok =
      such_reader (λ words h. (h.0, all_from (IsWordOf hardware) words h.1))
      (λ words h. (h.0, grows_all (IsWordOf hardware) words h.1))
      (many_reader (λ _. IsWordOf hardware) (spell_word hardware) (λ _. word_at hardware) (λ _. each hardware ok) count)

  abbrev spelled_image : Image → List ℕ
  spelled_image image = spelled_hardware spell image ++ flat_map (spell_word image) image.words

  abbrev words_behind : Image × List ℕ → Reading (List Word)
  words_behind h = many_at (λ _. word_at h.0) [] (h.0.period * h.0.unroll) h.1

  abbrev whole_image : Image × List ℕ → List Word × List ℕ → Reading Image
  whole_image h w = Ok (record h.0 { words = w.0 }, w.1)

  image_took : (left : List ℕ)
      → IsDigits base left
      → (x : Image × List ℕ)
      → image_at form word_at left ≡ Ok x
      → Took base IsValid spelled_image left x
  unfolding image_at spelled_hardware
  image_took left fits x e =
      let s = bound2 (hardware_at form left) words_behind whole_image x e in
      let h = (hardware_reader is).took left fits s.0 s.2 in
      let w = (words_reader s.0.0 (s.0.0.period * s.0.0.unroll) h.allowed).took s.0.1 h.text.rest_fits s.1 s.3 in
      let image : Image = record s.0.0 { words = s.1.0 } in
      subst (λ (q : Image × List ℕ). Took base IsValid spelled_image left q) (ok_is (image, s.1.1) x s.4) (record {
        allowed = valid_image s.0.0 s.1.0 h.allowed w.allowed.0 w.allowed.1;
        text = rw (alike s.0.0 s.1.0) (h.text ⨟ w.text);
      })

  image_again : (image : Image) (rest : List ℕ)
      → IsValid image
      → image_at form word_at (spelled_image image ++ rest) ≡ Ok (image, rest)
  unfolding image_at spelled_hardware
  image_again image rest ok =
      let H = spelled_hardware spell image in
      let W = flat_map (spell_word image) image.words in
      let hardware : Image = record image { words = [] } in
      let good = valid_hardware image ok in
      let words =
      (words_reader hardware (image.period * image.unroll) good).again image.words rest
      (ok.word_count, λ k d lt. other_words image [] (slice_index_or image.words k d) (ok.words k d lt)) in
      ap (image_at form word_at) (append_assoc H W rest)
      ∙ joined2 (hardware_at form (H ++ (W ++ rest))) words_behind whole_image (hardware, W ++ rest)
      (image.words, rest)
      ((hardware_reader is).again hardware (W ++ rest) good)
      (rw (alike image []) at words)

  pub image_reader : IsReader base IsValid spelled_image (image_at form word_at)
  image_reader = record { took = image_took; again = image_again }
