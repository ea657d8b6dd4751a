-- Copies of lifetimes that share no cycle, word by word.
use Rattle.std.proofs.Common.{◌≡◌, ◌∙◌, ℕ, ◌*◌, ◌<◌, sym, arith}
use Rattle.plan_core.specs.Circle.{AreApart}
use Rattle.plan_core.specs.declared.registers.Arc.{Arc}
use Rattle.reg_alloc.specs.Private.Spans.{IsOnCircle, span_of, AreSpansApart}
use Rattle.reg_alloc.proofs.SpanLemmas.{meet_back, apart_never, never_ended, never_round}
use Rattle.reg_alloc.proofs.Meeting.{starts_in, words_never}
use Rattle.given_registers.specs.Private.Words.{IsSpanOf, IsApart, IsWordApart}
use Rattle.given_registers.specs.declared.circle.Span.{Span}

-- two spans, as the code has them
module _ (period length : ℕ) (a b : Arc) (m n : ℕ) (s t : Span) (of_s : IsSpanOf period a m s)
    (of_t : IsSpanOf period b n t) where
  pub spans_apart : IsApart length s t → AreSpansApart length (span_of period a m) (span_of period b n)
  spans_apart apart = record {
    forward = λ le.
        let order = apart.forward (omega (arith, le, of_s.after, of_t.after)) in
        record {
          ended = omega (arith, order.ended, of_s.upto, of_t.after);
          round = omega (arith, order.round, of_s.after, of_t.upto);
        };
    backward = λ less.
        let order = apart.backward (omega (arith, less, of_s.after, of_t.after)) in
        record {
          ended = omega (arith, order.ended, of_t.upto, of_s.after);
          round = omega (arith, order.round, of_t.after, of_s.upto);
        };
  }

  pub apart_spans : AreSpansApart length (span_of period a m) (span_of period b n) → IsApart length s t
  apart_spans apart = record {
    forward = λ le.
        let order = apart.forward (omega (arith, le, of_s.after, of_t.after)) in
        record {
          ended = omega (arith, order.ended, of_s.upto, of_t.after);
          round = omega (arith, order.round, of_s.after, of_t.upto);
        };
    backward = λ less.
        let order = apart.backward (omega (arith, less, of_s.after, of_t.after)) in
        record {
          ended = omega (arith, order.ended, of_t.upto, of_s.after);
          round = omega (arith, order.round, of_t.after, of_s.upto);
        };
  }

module _ (period samples : ℕ) (a : Arc) (i : ℕ) (b : Arc) (j : ℕ) where
  abbrev pub AreWordsApart : (upto : ℕ) → Type 0
  AreWordsApart upto = (m : ℕ) → m < upto → IsWordApart period samples a i b j m samples

  pub apart_of : AreWordsApart samples → AreApart period samples a i b j
  apart_of words = record {
    none = λ x p q.
        apart_never (samples * period) (span_of period a p.sample) (span_of period b q.sample)
        (words p.sample p.sample_in p.in_turn q.sample q.sample_in q.in_turn) p.cycle q.cycle p.after p.upto q.after
        q.upto (sym p.place ∙ q.place);
  }

  pub words_of : IsOnCircle period a
      → IsOnCircle period b
      → AreApart period samples a i b j
      → AreWordsApart samples
  words_of on_a on_b apart m m_in m_turn n n_in n_turn =
      let never = words_never period samples a i b j m n apart m_in n_in m_turn n_turn in
      let back = meet_back (samples * period) (span_of period a m) (span_of period b n) never in
      let a_in = starts_in period samples a.w m on_a.start m_in in
      let b_in = starts_in period samples b.w n on_b.start n_in in
      let a_some = on_a.later in
      let b_some = on_b.later in
      record {
        forward = λ le. record {
          ended = never_ended (samples * period) (span_of period a m) (span_of period b n) never le
              (omega (arith, b_some));
          round = never_round (samples * period) (span_of period a m) (span_of period b n) never (omega (arith, b_in))
              (omega (arith, a_some));
        };
        backward = λ less. record {
          ended = never_ended (samples * period) (span_of period b n) (span_of period a m) back (omega (arith, less))
              (omega (arith, a_some));
          round = never_round (samples * period) (span_of period b n) (span_of period a m) back (omega (arith, a_in))
              (omega (arith, b_some));
        };
      }
