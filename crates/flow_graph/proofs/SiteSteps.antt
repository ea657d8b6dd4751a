-- The places of an expression are added one part after another.
use Rattle.std.proofs.Common.{◌≡◌, ℕ, ◌+◌, ◌-◌, ◌≤◌, List, [], ◌∷◌, ◌++◌, length, refl, sym, ap, ap₂, subst, ◌∙◌, map}
use Rattle.std.proofs.Common.{arith}
use Rattle.std.proofs.lemmas.List.{append-nil, map-append, length-map, length-append}
use mathlib.Core.List.{append_assoc}
use Rattle.fix_word.specs.declared.operation.Op.{Op}
use Rattle.fix_word.specs.declared.types.Format.{Format}
use Rattle.signal_graph.specs.Flat.{Expr, calculation, Parts, no_part, size, size_of_parts}
use Rattle.signal_graph.specs.Expressions.{parts_of}
use Rattle.signal_graph.specs.GraphOf.{Operand, place, Made, operation, operand_at, operands_from, made_by}
use Rattle.signal_graph.specs.GraphOf.{made_by_parts, Site, sites_from}
use Rattle.signal_graph.proofs.Parts.{length_made, length_made_parts}
use Rattle.signal_graph.proofs.Nodes.{length_sites_from}
use Rattle.flow_graph.specs.declared.sites.Operand.{Operand as CodeOperand}
use Rattle.flow_graph.specs.declared.sites.Operand.TheVariants as is
use Rattle.flow_graph.specs.declared.sites.Site.{Site as CodeSite}
use Rattle.flow_graph.specs.Private.Sites.{view_operand, view_site, Extends, AddsSite, AddsPlaces, AddsParts}
use Rattle.flow_graph.proofs.SiteLists.{sites_append, made_more}
use Rattle.flow_graph.proofs.SiteLists.{operands_more}

pub extends_length : (old new : List CodeSite) (e start : ℕ) (made : List Made)
    → Extends old e start made new
    → length new ≡ length old + length made
extends_length old new e start made h =
    let all = ap length h.is in
    let sum = length-append (map view_site old) (sites_from e (length old - start) made) in
    let more = length_sites_from e (length old - start) made in
    let before = length-map old view_site in
    let after = length-map new view_site in
    omega arith

pub placed_length : (old new : List CodeSite) (e start : ℕ) (x : Expr) (o : CodeOperand)
    → AddsPlaces old e start x new o
    → length new ≡ length old + size x
placed_length old new e start x o h =
    extends_length old new e start _ h.sites ∙ ap (λ n. length old + n) (length_made (length old - start) x)

-- more behind what was added
pub extends_more : (old mid new : List CodeSite) (e start k : ℕ) (xs ys : List Made)
    → start ≤ length old
    → k ≡ length old - start
    → map view_site mid ≡ map view_site old ++ sites_from e k xs
    → length mid ≡ length old + length xs
    → map view_site new ≡ map view_site mid ++ sites_from e (length mid - start) ys
    → map view_site new ≡ map view_site old ++ sites_from e k (xs ++ ys)
extends_more old mid new e start k xs ys inside at h size more =
    let next : length mid - start ≡ k + length xs = omega arith in
    more ∙ ap₂ (λ (zs : List Site) n. zs ++ sites_from e n ys) h next
    ∙ append_assoc (map view_site old) (sites_from e k xs) (sites_from e (k + length xs) ys)
    ∙ ap (λ zs. map view_site old ++ zs) (sym (sites_append e k xs ys))

pub parts_none : (old : List CodeSite) (e start : ℕ) (os : List CodeOperand)
    → os ≡ []
    → AddsParts old e start no_part old os
parts_none old e start os none = record {
  sites = record { is = sym (append-nil (map view_site old)) };
  operands = ap (map view_operand) none;
}

module _ (old mid new : List CodeSite) (e start : ℕ) (inside : start ≤ length old) where
  abbrev k : ℕ
  k = length old - start

  pub parts_length : (parts : Parts) (os : List CodeOperand)
      → AddsParts old e start parts mid os
      → length mid ≡ length old + size_of_parts parts
  parts_length parts os h =
      extends_length old mid e start _ h.sites ∙ ap (λ n. length old + n) (length_made_parts k parts)

  pub part_more : (ys : List Expr) (x : Expr) (os os' : List CodeOperand) (o : CodeOperand)
      → AddsParts old e start (parts_of ys) mid os
      → AddsPlaces mid e start x new o
      → os' ≡ os ++ o ∷ []
      → AddsParts old e start (parts_of (ys ++ x ∷ [])) new os'
  part_more ys x os os' o h one push =
      let size_now = parts_length (parts_of ys) os h in
      let next : length mid - start ≡ k + size_of_parts (parts_of ys) = omega arith in
      record {
        sites = record {
          is =
              extends_more old mid new e start k (made_by_parts k (parts_of ys))
              (made_by (k + size_of_parts (parts_of ys)) x) inside refl h.sites.is
              (size_now ∙ ap (λ n. length old + n) (sym (length_made_parts k (parts_of ys))))
              (one.sites.is ∙ ap (λ n. map view_site mid ++ sites_from e (length mid - start) (made_by n x)) next)
              ∙ ap (λ ms. map view_site old ++ sites_from e k ms) (sym (made_more k ys x));
        };
        operands = ap (map view_operand) push ∙ map-append view_operand os (o ∷ [])
            ∙ ap₂ (λ (xs : List Operand) y. xs ++ y ∷ []) h.operands
            (one.operand
            ∙ ap (λ n. operand_at n x)
            (let P : ℕ → Type 0 = λ n. length mid - start + size x - 1 ≡ n + size x - 1 in subst P next refl))
            ∙ sym (operands_more k ys x);
      }

  pub calculated : (o : Op) (fmt : Format) (parts : Parts) (os : List CodeOperand)
      → AddsParts old e start parts mid os
      → AddsSite mid e start (operation o fmt (map view_operand os)) new
      → AddsPlaces old e start (calculation o fmt parts) new (is.Place (length mid - start))
  calculated o fmt parts os h last =
      let size_now = parts_length parts os h in
      record {
        sites = record {
          is =
              extends_more old mid new e start k (made_by_parts k parts) (operation o fmt (operands_from k parts) ∷ [])
              inside refl h.sites.is
              (size_now ∙ ap (λ n. length old + n) (sym (length_made_parts k parts)))
              (last.is
              ∙ ap (λ xs. map view_site mid ++ sites_from e (length mid - start) (operation o fmt xs ∷ []))
              h.operands);
        };
        operand = ap place (omega arith);
      }

-- the places of the parts that have been passed
pub record PartsSoFar (old : List CodeSite)
    (e start : ℕ) (parts : Parts) (now : List CodeSite) (os : List CodeOperand) : Type 0 where
  pub adds : AddsParts old e start parts now os
  pub inside : start ≤ length now
