use Rattle.std.proofs.Common.{◌≡◌, ◌∙◌, ◌++◌, ◌*◌, ℕ, List, length, ap, ap₂, subst, append_assoc, OnOk}
use Rattle.micro_bits.specs.Idle.{sizes, files_of}
use Rattle.micro_bits.specs.Private.Placed.{starts_in}
use Rattle.micro_bits.specs.Private.Placed.{placed_issues, placed_enables, placed_takes}
use Rattle.micro_bits.proofs.PlacedWord.{word_placed}
use Rattle.micro_bits.proofs.encoder.put_word.Goals as goal

pub returns : goal.returns
returns c =
    let out : List ℕ = c.args.out.now in
    let units : ℕ = length c.args.image.now.units in
    let buses : ℕ = c.args.image.now.buses in
    let issues : List ℕ = placed_issues units 0 c.args.word.now.issues in
    let enables : List ℕ = placed_enables buses (units * buses) 0 c.args.word.now.enables in
    let takes : List ℕ =
    placed_takes (starts_in c.args.image.now) (sizes (files_of c.args.image.now) 0 units) 0 c.args.word.now.takes in
    let issued : c.put_issues.new.out ≡ out ++ issues =
    c.in_ok-put_issues.ensures
    ∙ ap (λ (n : ℕ). out ++ placed_issues n 0 c.args.word.now.issues) c.len-units.ensures in
    let enabled : c.put_enables.new.out ≡ c.put_issues.new.out ++ enables =
    c.in_ok-put_enables.ensures
    ∙ ap₂ (λ (n b : ℕ). c.put_issues.new.out ++ placed_enables buses (n * b) 0 c.args.word.now.enables)
    c.len-units.ensures c.from.ensures in
    subst (λ (new : List ℕ). OnOk c.put_takes.result (c.put_takes.new.out ≡ new))
    (ap₂ (λ (starts : List ℕ) (files : ℕ). c.put_enables.new.out
    ++ placed_takes starts files 0 c.args.word.now.takes) c.requires.starts c.requires.files
    ∙ ap (λ (front : List ℕ). front ++ takes) (enabled ∙ ap (λ (front : List ℕ). front ++ enables) issued)
    ∙ ap (λ (front : List ℕ). front ++ takes) (append_assoc out issues enables)
    ∙ append_assoc out (issues ++ enables) takes
    ∙ ap (λ (own : List ℕ). out ++ own) (word_placed c.args.image.now c.args.word.now c.requires.word))
    c.put_takes.ensures
