-- Microwords of version 1 are misread inside the bytes.
use Rattle.std.proofs.Common.{ℕ, List, length, arith}
use Rattle.std.specs.Prelude.{slice_get}
use Rattle.std.specs.Int.{w16}
use Rattle.micro_image.specs.declared.image.Enable.{Enable}
use Rattle.micro_image.specs.declared.image.Image.{Image}
use Rattle.micro_image.specs.declared.image.Issue.{Issue}
use Rattle.micro_image.specs.declared.image.Take.{Take}
use Rattle.micro_file.specs.Private.Fields.{last_of}
use Rattle.micro_file.specs.Private.Bytes.{at_bytes, byte_at, byte_below, byte_upto, number_within}
use Rattle.micro_file.specs.Private.Order.{is_above, is_next, enable_before, take_before}
use Rattle.micro_file.specs.Private.Hardware.{issue_on_at}
use Rattle.micro_file.specs.Private.Words.{issue_at, issues_at, enable_at, enables_at, take_at, takes_at, word_at}
use Rattle.micro_file.proofs.Inside.{IsInside, inside_more, next, keeps, kept_then, finds, counted_in}
use Rattle.micro_file.proofs.InsideBytes.{inside_bytes, byte_in, below_in, upto_in, number_within_in}
use Rattle.micro_file.proofs.InsideUnits.{issue_on_in}
use Rattle.micro_file.proofs.WordLists.{lists_in}

issue_in : (image : Image) (front : List Issue) (bytes : List ℕ) → IsInside (length bytes) (issue_at image front bytes)
unfolding issue_at
issue_in image front bytes =
    next (length bytes) (byte_at bytes) _ (byte_in bytes) (λ n le.
    finds (length bytes) bytes (slice_get image.units n.0) _ (omega arith) (λ unit.
    kept_then (length bytes) bytes (is_above (last_of front) n.0) n (λ k. issue_on_at at_bytes image k.0 unit k.1)
    (omega arith)
    (inside_more (length n.1) (length bytes) (issue_on_at at_bytes image n.0 unit n.1) le
    (issue_on_in inside_bytes image n.0 unit n.1))))

issues_in : (image : Image) (bytes : List ℕ) → IsInside (length bytes) (issues_at image bytes)
unfolding issues_at
issues_in image bytes =
    counted_in (byte_upto (length image.units)) (issue_at image) bytes (upto_in (length image.units) bytes)
    (issue_in image)

enable_in : (image : Image) (front : List Enable) (bytes : List ℕ)
    → IsInside (length bytes) (enable_at image front bytes)
unfolding enable_at
enable_in image front bytes =
    next (length bytes) (byte_below (length image.units) bytes) _ (below_in (length image.units) bytes) (λ u lu.
    next (length bytes) (byte_below image.buses u.1) _
    (inside_more (length u.1) (length bytes) (byte_below image.buses u.1) lu (below_in image.buses u.1)) (λ b lb.
    keeps (length bytes) bytes (is_next enable_before (last_of front) (record { unit = u.0; bus = b.0 }))
    (record { unit = u.0; bus = b.0 }, b.1) (omega arith) lb))

enables_in : (image : Image) (bytes : List ℕ) → IsInside (length bytes) (enables_at image bytes)
unfolding enables_at
enables_in image bytes =
    counted_in (number_within w16 0 1024) (enable_at image) bytes (number_within_in w16 0 1024 bytes) (enable_in image)

take_in : (image : Image) (front : List Take) (bytes : List ℕ) → IsInside (length bytes) (take_at image front bytes)
unfolding take_at
take_in image front bytes =
    next (length bytes) (byte_at bytes) _ (byte_in bytes) (λ n ln.
    finds (length bytes) bytes (slice_get image.units n.0) _ (omega arith) (λ unit.
    next (length bytes) (byte_at n.1) _ (inside_more (length n.1) (length bytes) (byte_at n.1) ln (byte_in n.1))
    (λ p lp.
    finds (length bytes) n.1 (slice_get unit.files p.0) _ ln (λ file.
    next (length bytes) (byte_below image.buses p.1) _
    (inside_more (length p.1) (length bytes) (byte_below image.buses p.1) lp (below_in image.buses p.1)) (λ b lb.
    next (length bytes) (byte_below (length file) b.1) _
    (inside_more (length b.1) (length bytes) (byte_below (length file) b.1) lb (below_in (length file) b.1)) (λ r lr.
    let take : Take = record { port = record { unit = n.0; port = p.0 }; bus = b.0; reg = r.0 } in
    keeps (length bytes) bytes (is_next take_before (last_of front) take) (take, r.1) (omega arith) lr))))))

takes_in : (image : Image) (bytes : List ℕ) → IsInside (length bytes) (takes_at image bytes)
unfolding takes_at
takes_in image bytes =
    counted_in (number_within w16 0 1024) (take_at image) bytes (number_within_in w16 0 1024 bytes) (take_in image)

pub word_in : (image : Image) (bytes : List ℕ) → IsInside (length bytes) (word_at image bytes)
unfolding word_at
word_in image =
    lists_in (issues_at image) (enables_at image) (takes_at image) (issues_in image) (enables_in image) (takes_in image)
