-- At the end of input stands nothing, a row's text, or a line that is no row.
use Rattle.std.proofs.Common.{rules, ◌<◌, ◌++◌, ◌∷◌, [], ℤ, arith, subst, sym, FitsSigned, w64}
use Rattle.std.proofs.lemmas.Int.{to_z-of_z}
use Rattle.sample_io.specs.Samples.{LacksLastEnd, StopsAfter}
use Rattle.sample_io.proofs.Files.{end_of_lines, end_of_text, bad_end}
use Rattle.sample_io.proofs.read.Reader.finish.Goals as goal

pub returns-then-self-eq0 : goal.returns-then-self-eq0
returns-then-self-eq0 c = λ bytes rows words h.
    end_of_lines c.args.channels.now bytes rows words c.args.self.now h c.if-self-eq0.true

pub returns-in-Some : goal.returns-in-Some
returns-in-Some c = λ bytes rows words h.
    let fits : FitsSigned w64 c.in-Some.word = search rules in
    let text = c.in-Some.ensures h.line words h.so_far in
    subst (λ (z : ℤ). LacksLastEnd bytes c.args.channels.now (rows ++ (words ++ z ∷ []) ∷ []))
    (sym (to_z-of_z w64 c.in-Some.word fits))
    (end_of_text c.args.channels.now bytes rows words c.args.self.now h c.in-Some.word text)

pub returns-in-None : goal.returns-in-None
returns-in-None c = λ bytes rows words h.
    let some : 0 < c.args.self.now.at = omega (arith, c.if-self-eq0.false) in
    subst (StopsAfter c.args.channels.now bytes rows) (sym c.fault.ensures)
    (bad_end c.args.channels.now c.requires.channels bytes rows words c.args.self.now h some
    (c.in-None.ensures h.line words h.so_far))
