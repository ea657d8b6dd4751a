-- The bytes are read by the definition of TOML, and each key by its row.
use Rattle.std.proofs.Common.{◌≡◌, ◌≢◌, ◌<◌, refl, sym, subst, ap, arith, lit≤, ℕ, List, [], ◌∷◌, codes, Ok}
use Rattle.std.proofs.Common.{Result}
use Rattle.std.proofs.Common.{ltb, true, false, true≢false, length, ◌∙◌}
use Rattle.std.specs.Prelude.{slice_index, bytes_eq}
use Rattle.std.specs.Str.{IsAscii}
use Rattle.std.proofs.lemmas.Bool.Decides.{nat_tests}
use Rattle.std.proofs.lemmas.List.Sums.{AllPass-from_list_all}
use Rattle.std.proofs.lemmas.Str.{is_utf8-from_IsUtf8, IsUtf8-from_ascii}
use Rattle.std.proofs.lemmas.Str.Ascii.{IsAscii-from_reads}
use Rattle.std.proofs.lemmas.List.Kept.{AllPairs-cons}
use Rattle.std.proofs.lemmas.Option.{same_Some}
use Rattle.toml.proofs.OnLiterals.{toml_on_literals}
use Rattle.operations.specs.declared.units.PortRef.{PortRef}
use Rattle.datapath.specs.Allowed.{IsDistinct}
use Rattle.datapath.specs.Described.{IsPathOf, IsValue}
use Rattle.datapath.specs.Table as row
use Rattle.datapath.specs.declared.types.Datapath.{Datapath}
use Rattle.micro_image.proofs.Each.{Each, none, more, All-from_Each}
use Rattle.worked_values.specs.Paths.{line, path_file, path_described}
use Rattle.worked_values.proofs.paths.Goals as goal

no_pairs : {A : Type 0} → IsDistinct {A = A} []
no_pairs i j d less within = absurd (omega (arith, less, within))

-- an element that is none of the rest, before a list of such
apart : {A : Type 0} (x : A) {xs : List A} → Each (λ y. x ≢ y) xs → IsDistinct xs → IsDistinct (x ∷ xs)
apart x {xs} differ rest = AllPairs-cons (λ a b. a ≢ b) x xs (All-from_Each (λ y. x ≢ y) differ) rest

other : (s t : List ℕ) → bytes_eq s s ≡ true → bytes_eq t s ≡ false → s ≢ t
other s t same differ e = true≢false (sym same ∙ ap (λ u. bytes_eq u s) e ∙ differ)

zero_is_not_one : ◌≡◌ {A = ℕ} 0 1 → ⊥
zero_is_not_one e = omega (arith, e)

small : (b : ℕ) → ltb b 128 ≡ true → b < 128
small b e = grind (arith, nat_tests)

ascii : IsAscii path_file
ascii =
    IsAscii-from_reads path_file (length path_file) (omega arith)
    (λ k below. small (slice_index path_file k) (AllPass-from_list_all (λ b. ltb b 128) path_file refl k 0 below))

pub returns-clause-path : goal.returns-clause-path
unfolding toml_on_literals
returns-clause-path _ = record {
  short = lit≤ tt;
  text = is_utf8-from_IsUtf8 path_file (IsUtf8-from_ascii path_file ascii);
  table = _;
  toml = refl;
  path =
      record {
        keys = refl;
        period = refl;
        word = refl;
        hold = refl;
        unit = _;
        unit_is = refl;
        bus = _;
        bus_is = refl;
        units = (
          record {
            keys = refl;
            name = refl;
            kind = refl;
            latency = refl;
            gap = refl;
            files = refl;
            cells = λ e. absurd (cc);
            no_cells = λ other. refl;
            ram = λ e. absurd (cc);
            no_ram = λ other. refl;
          },
          (
            record {
              keys = refl;
              name = refl;
              kind = refl;
              latency = refl;
              gap = refl;
              files = refl;
              cells = λ e. absurd (cc);
              no_cells = λ other. refl;
              ram = λ e. (codes "m", refl, (refl, refl));
              no_ram = λ other. absurd (other refl);
            },
            (
              record {
                keys = refl;
                name = refl;
                kind = refl;
                latency = refl;
                gap = refl;
                files = refl;
                cells = λ e. refl;
                no_cells = λ other. absurd (other refl);
                ram = λ e. absurd (cc);
                no_ram = λ other. refl;
              },
              tt,
            ),
          ),
        );
        unit_names =
            apart (codes "x") (more (other _ _ refl refl) (more (other _ _ refl refl) none))
            (apart (codes "a") (more (other _ _ refl refl) none) (apart (codes "m") none no_pairs));
        buses = (
          record {
            keys = refl;
            name = refl;
            from = codes "x" ∷ codes "a" ∷ [];
            from_is = refl;
            drivers = (refl, (refl, tt));
            drivers_once = apart 0 (more zero_is_not_one none) (apart 1 none no_pairs);
            to = codes "m.0" ∷ codes "m.1" ∷ [];
            to_is = refl;
            sinks = (
              record { there = lit≤ tt; unit = codes "m"; named = refl; spelled = refl },
              (record { there = lit≤ tt; unit = codes "m"; named = refl; spelled = refl }, tt),
            );
            sinks_once =
                apart _ (more (λ e. zero_is_not_one (ap (λ (p : PortRef). p.port) e)) none) (apart _ none no_pairs);
          },
          tt,
        );
        bus_names = apart (codes "b") none no_pairs;
        to_count = lit≤ tt;
      };
}

ok_once : {A B : Type 0} {x y : A} → ◌≡◌ {A = Result A B} (Ok x) (Ok y) → x ≡ y
ok_once e = cc

pub returns-clause-others : goal.returns-clause-others
unfolding toml_on_literals
returns-clause-others _ = λ d. (λ h. no_period d h, λ h. other_period h)
  where
    no_period : (d : Datapath) → IsPathOf (line (codes "word = 8")) d → ⊥
    no_period d h =
        let period = subst (λ t. IsValue row.period t d.period) (sym (same_Some _ _ h.toml)) h.path.period in
        absurd (cc)

    other_period : IsPathOf path_file (record path_described { period = 7 }) → ⊥
    other_period h =
        let period = subst (λ t. IsValue row.period t 7) (sym (same_Some _ _ h.toml)) h.path.period in
        let same : ◌≡◌ {A = ℕ} 6 7 = ok_once period in
        omega (arith, same)
