-- Bytes that are added to the current output, one piece after another.
use Rattle.std.proofs.Common.{◌≡◌, ℕ, [], ◌++◌, take, Option, Some, None, refl, ap, sym, ◌∙◌, subst, append_assoc}
use Rattle.std.proofs.lemmas.List.{append-nil}
use Rattle.desk_core.specs.View.{Name, Content, Files, View}
use Rattle.desk_core.specs.Desk.{IsWritten, content_of}
use Rattle.sample_loops.specs.Output.{IsLonger, GrowsBy, HasPut}
use Rattle.sample_loops.specs.Private.Buffers.{IsAppended}

once : (a b : Files) → Some a ≡ Some b → a ≡ b
once a b e = cc

-- nothing was added
pub put_none : (desk : View) → HasPut [] desk desk
put_none desk = λ after is. (
  after,
  is,
  record {
    named = λ name out. record {
      here = λ bytes there. there ∙ ap (λ b. Some b) (sym (append-nil bytes));
      missing = λ none. ap content_of none;
      others = λ s other. refl;
    };
    none = λ out. refl;
  },
)

pub appended_none : (desk : View) → IsAppended [] desk desk
appended_none desk = record {
  files = put_none desk;
  output = refl;
  input = record { named = refl; bytes = refl };
  place = refl;
  printed = refl;
  reads = refl;
  writes = refl;
}

-- what a file has that is longer, or was not there
content_more : (name : Name) (more : Content) (old new : Files)
    → IsLonger name more old new
    → content_of (new name) ≡ content_of (old name) ++ more
content_more name more old new longer = go (old name) refl
  where
    go : (before : Option Content) → old name ≡ before → content_of (new name) ≡ content_of (old name) ++ more
    go None e = longer.missing e ∙ sym (ap (λ o. content_of o ++ more) e)
    go (Some bytes) e = ap content_of (longer.here bytes e) ∙ sym (ap (λ o. content_of o ++ more) e)

-- bytes behind bytes
longer_twice : (name : Name) (first second : Content) (old mid new : Files)
    → IsLonger name first old mid
    → IsLonger name second mid new
    → IsLonger name (first ++ second) old new
longer_twice name first second old mid new before now = record {
  here = λ bytes there.
      now.here (bytes ++ first) (before.here bytes there) ∙ ap (λ c. Some c) (append_assoc bytes first second);
  missing = λ none. content_more name second mid new now ∙ ap (λ c. c ++ second) (before.missing none);
  others = λ s other. now.others s other ∙ before.others s other;
}

pub put_twice : (first second : Content) (old mid new : View)
    → mid.output ≡ old.output
    → HasPut first old mid
    → HasPut second mid new
    → HasPut (first ++ second) old new
put_twice first second old mid new same before now = λ after is.
    let middle = now after is in
    let start = before middle.0 middle.1 in
    let step = subst (λ (o : Option (Option Name)). GrowsBy o second middle.0 after) same middle.2 in (
      start.0,
      start.1,
      record {
        named = λ name out.
            longer_twice name first second start.0 middle.0 after (start.2.named name out) (step.named name out);
        none = λ out. step.none out ∙ start.2.none out;
      },
    )

-- what a write adds
put_written : (n : ℕ) (piece : Content) (old new : View) → IsWritten n piece old new → HasPut (take n piece) old new
put_written n piece old new step = λ after is.
    let start = step.files after is in (
      start.0,
      start.1,
      record {
        named = λ name out.
            let put = start.2 name out in
            record {
              here = λ bytes there. put.here ∙ ap (λ c. Some (content_of c ++ take n piece)) there;
              missing = λ none. ap content_of put.here ∙ ap (λ c. content_of c ++ take n piece) none;
              others = put.others;
            };
        none = λ out. once after start.0 (sym is ∙ step.dropped out ∙ start.1);
      },
    )

-- a piece more
pub appended_more : (more : Content) (n : ℕ) (piece : Content) (old mid new : View)
    → IsAppended more old mid
    → IsWritten n piece mid new
    → IsAppended (more ++ take n piece) old new
appended_more more n piece old mid new before now = record {
  files = put_twice more (take n piece) old mid new before.output before.files (put_written n piece mid new now);
  output = now.output ∙ before.output;
  input = record { named = now.input.named ∙ before.input.named; bytes = now.input.bytes ∙ before.input.bytes };
  place = now.place ∙ before.place;
  printed = now.printed ∙ before.printed;
  reads = now.reads ∙ before.reads;
  writes = now.writes ∙ before.writes;
}
