-- To solve a program is to solve its system of recurrence equations.
use Rattle.std.proofs.Common.{◌↔◌, ◌<◌, arith, ℕ, length}
use Rattle.std.specs.Prelude.{pos, negsuc}
use Rattle.std.proofs.lemmas.Int.{ints}
use Rattle.lists.specs.Rows.{Rows}
use Rattle.recurrences.specs.Systems as systems
use Rattle.silage_syntax.specs.Tree.{Program}
use Rattle.silage_meaning.specs.Value.{Words}
use Rattle.silage_meaning.specs.Solves.{Solves, IsSample, AreSame, IsOneSolution}
use Rattle.loop_expand.specs.Kept.{program_system}

pub before_0 : (rows j : ℕ) → j < 1023 → IsSample rows (negsuc j)
before_0 rows j less = record { first = omega (arith, ints); last = omega (arith, ints) }

pub from_0 : (rows n : ℕ) → n < rows → IsSample rows (pos n)
from_0 rows n less = record { first = omega (arith, ints); last = omega (arith, ints) }

module _ (p : Program) (stream : Rows) where
  pub solves_system : (words : Words) → Solves p stream words ↔ systems.Solves (program_system p stream) words
  solves_system words = (
    λ x. record { past = x.past; present = λ e n is inside source defined. x.present e n source is inside defined },
    λ x. record { past = x.past; present = λ e n source is inside defined. x.present e n is inside source defined },
  )

  same_back : (a b : Words) → systems.AreSame (program_system p stream) a b → AreSame p stream a b
  same_back a b same e (pos n) is sample = same.present e n is (omega (arith, ints, sample.last))
  same_back a b same e (negsuc j) is sample = same.past e j is (omega (arith, ints, sample.first))

  -- words are the same in the program where they are in its system
  pub same_system : (a b : Words) → AreSame p stream a b ↔ systems.AreSame (program_system p stream) a b
  same_system a b = (
    λ same. record {
      past = λ e j is less. same e (negsuc j) is (before_0 (length stream) j less);
      present = λ e n is inside. same e (pos n) is (from_0 (length stream) n inside);
    },
    same_back a b,
  )

  -- the one solution of a program is that of its system
  pub one_system : (words : Words)
      → IsOneSolution p stream words ↔ systems.IsOneSolution (program_system p stream) words
  one_system words = (
    λ one. record {
      solves = (solves_system words).0 one.solves;
      unique = λ others theirs. (same_system others words).0 (one.unique others ((solves_system others).1 theirs));
    },
    λ one. record {
      solves = (solves_system words).1 one.solves;
      unique = λ others theirs. (same_system others words).1 (one.unique others ((solves_system others).0 theirs));
    },
  )
