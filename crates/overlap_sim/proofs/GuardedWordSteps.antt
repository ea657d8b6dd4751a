-- The guarded words of the machine samples, one behind the other.
use Rattle.std.proofs.Common.{◌≡◌, ℕ, ◌+◌, ◌-◌, ◌*◌, ◌<◌, ◌≤◌, ⊎_elim, refl, sym, ap, ◌∙◌, subst, arith, List, [], ◌∷◌}
use Rattle.std.proofs.Common.{◌++◌, length}
use Rattle.std.proofs.Math.Nat.{mul-le-mul_right}
use Rattle.std.proofs.lemmas.Bool.{cases_lt}
use Rattle.std.proofs.lemmas.List.{get_or_append_left, get_or-append_right, length-append}
use Rattle.datapath.specs.declared.types.Datapath.{Datapath}
use Rattle.plan_core.specs.declared.plan.Plan.{Plan}
use Rattle.micro_image.specs.declared.image.Enable.{Enable}
use Rattle.micro_image.specs.declared.image.Issue.{Issue}
use Rattle.micro_image.specs.declared.image.Take.{Take}
use Rattle.micro_image.specs.Fields.{nth}
use Rattle.plan_soundness.proofs.Samples.{one_more}
use Rattle.overlap_sim.specs.declared.guarded.GuardedWord.{GuardedWord}
use Rattle.overlap_sim.specs.declared.guarded.Staged.{Staged}
use Rattle.overlap_sim.specs.Guarded.{no_guarded}
use Rattle.overlap_sim.specs.GuardedOf.{IsStagedWordOf}
use Rattle.overlap_sim.specs.Private.Staged.{HasIssues, HasEnables, HasTakes, AreBehind, AreWords}

module _ (d : Datapath) (p : Plan) where
  pub word_is : (n c : ℕ) (issues : List (Staged Issue)) (enables : List (Staged Enable)) (takes : List (Staged Take))
      → HasIssues d p n c issues
      → HasEnables d p c enables
      → HasTakes d p n c takes
      → IsStagedWordOf d p n c (record { issues = issues; enables = enables; takes = takes })
  word_is n c issues enables takes are drive write = record {
    issue = are.all;
    issue_only = are.only;
    enable = drive.all;
    enable_only = drive.only;
    take = write.all;
    take_only = write.only;
    issues_rise = are.rise;
    enables_rise = drive.rise;
    takes_rise = write.rise;
  }

  pub none_behind : (n : ℕ) (old : List GuardedWord) → AreBehind d p n 0 old old
  none_behind n old = record {
    count = omega arith;
    before = λ x below. refl;
    behind = λ c below. absurd (omega (arith, below));
  }

  -- the word of one more cycle
  pub word_behind : (n c : ℕ) (word : GuardedWord) (old mid new : List GuardedWord)
      → new ≡ mid ++ word ∷ []
      → IsStagedWordOf d p n c word
      → AreBehind d p n c old mid
      → AreBehind d p n (c + 1) old new
  word_behind n c word old mid new new-is is put =
      subst (AreBehind d p n (c + 1) old) (sym new-is) (record {
        count = omega (arith, length-append mid (word ∷ []), put.count);
        before = λ x below.
            get_or_append_left mid (word ∷ []) no_guarded x (omega (arith, below, put.count)) ∙ put.before x below;
        behind = λ b below.
            ⊎_elim
            (λ (less : b < c).
            subst (IsStagedWordOf d p n b)
            (sym (get_or_append_left mid (word ∷ []) no_guarded (length old + b) (omega (arith, less, put.count))))
            (put.behind b less))
            (λ (from : c ≤ b). last b (omega (arith, below, from)))
            (cases_lt b c);
      })
    where
      last : (b : ℕ) → b ≡ c → IsStagedWordOf d p n b (nth (mid ++ word ∷ []) (length old + b) no_guarded)
      last b same =
          subst (λ b. IsStagedWordOf d p n b (nth (mid ++ word ∷ []) (length old + b) no_guarded)) (sym same)
          (subst (IsStagedWordOf d p n c)
          (sym (ap (λ x. nth (mid ++ word ∷ []) x no_guarded) (sym put.count)
          ∙ get_or-append_right mid (word ∷ []) (length mid) (length mid) no_guarded refl (omega arith)
          ∙ ap (λ i. nth (word ∷ []) i no_guarded) (none (length mid)))) is)
        where
          none : (m : ℕ) → m - m ≡ 0
          none m = omega arith

  -- the words of one more sample
  pub words_more : (m : ℕ) (old new : List GuardedWord)
      → AreBehind d p m d.period old new
      → AreWords d p m old
      → AreWords d p (m + 1) new
  words_more m old new put words = record {
    count = omega (arith, put.count, words.count, one_more m d.period);
    each = λ n c in-n in-c.
        ⊎_elim
        (λ (less : n < m).
        let le : (n + 1) * d.period ≤ m * d.period = mul-le-mul_right d.period (omega (arith, less)) in
        subst (IsStagedWordOf d p n c)
        (sym (put.before (n * d.period + c) (omega (arith, le, one_more n d.period, in-c, words.count))))
        (words.each n c less in-c))
        (λ (from : m ≤ n). last n c (omega (arith, in-n, from)) in-c)
        (cases_lt n m);
  }
    where
      last : (n c : ℕ) → n ≡ m → c < d.period → IsStagedWordOf d p n c (nth new (n * d.period + c) no_guarded)
      last n c same in-c =
          subst (λ n. IsStagedWordOf d p n c (nth new (n * d.period + c) no_guarded)) (sym same)
          (subst (IsStagedWordOf d p m c)
          (ap (λ x. nth new (x + c) no_guarded) words.count) (put.behind c in-c))
