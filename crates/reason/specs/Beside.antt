-- Beside the lookup of the same record and tag, for any octets: where that finds a value the answer is 18, where it
-- says absent the reply is listed or not listed, and its refusals are answered too, save the 15 for an unknown tag,
-- where the reply is another type or no column.
use Rattle.std.specs.Prelude.{Err, Some, None, Ok, ℕ, ◌≡◌, Bool, true, not, List, length, get_or}
use Rattle.std.proofs.Math.Path.{refl}
use Rattle.std.proofs.Common.{sym, ap, ◌∙◌, lt-ltb}
use Rattle.std.proofs.Math.Bool.{false}
use Rattle.std.proofs.Math.Option.{Option, none, some}
use Rattle.octets.specs.Octets.{Octets}
use Rattle.answers.specs.Numbers.{out_of_turn, breaks_form}
use Rattle.answers.specs.Verdict.{Verdict}
use Rattle.answers.specs.Verdict.{clear, Refused}
use Rattle.answers.specs.declared.Refusal.{Refusal}
use Rattle.answers.specs.Verdict.{need}
use Rattle.table.specs.Found.{Found}
use Rattle.table.specs.Found.{At, Nothing}
use Rattle.entry.specs.Present.{Row, there}
use Rattle.entry.specs.Record.{unlike}
use Rattle.book.specs.Book.{Book, judge}
use Rattle.book.specs.Read.{book_in, book-reads, rows-count}
use Rattle.lookup.specs.Look.{no_such, column_in, in_column, look_in, lookup_of}
use Rattle.lookup.specs.Laws.{look_of, book_look, look_is}
use Rattle.lookup.specs.Named.{There, tags_under, row_for, has_record, start_for, named_in}
use Rattle.lookup.specs.Named.{value_in, value_for}
use Rattle.lookup.specs.declared.Which.{Which}
use Rattle.lookup.specs.declared.Which.TheVariants as which
use Rattle.lookup.specs.Looked.{Looked}
use Rattle.reason.specs.Reply.{Reply}
use Rattle.reason.specs.declared.Reason.TheVariants as reason
use Rattle.reason.specs.Why.{upper, uppers_of, rows_place, other_by, other_type, is_listed}
use Rattle.reason.specs.Why.{presence_place, absent_at, reply_by, reply_in, reason_by, why_at, why_of}
use Rattle.reason.specs.Cause.{present, answer_in, why-is}

-- 15, as the lookup refuses an unknown tag
abbrev pub unknown_tag : Refusal
unknown_tag = record { number = out_of_turn; place = 0 }

-- what may be answered beside what the lookup answers
abbrev pub Beside : Looked → Reply → Type 0
Beside (Ok (Some (s, e))) r = present ≡ r
Beside (Ok None) (Ok (reason.Listed p)) = Unit {0}
Beside (Ok None) (Ok (reason.NotListed p)) = Unit {0}
Beside (Ok None) (Ok (reason.OtherType u p)) = ⊥
Beside (Ok None) (Ok reason.NoColumn) = ⊥
Beside (Ok None) (Err r) = ⊥
Beside (Err q) (Err r) = q ≡ r
Beside (Err q) (Ok (reason.OtherType u p)) = unknown_tag ≡ q
Beside (Err q) (Ok reason.NoColumn) = unknown_tag ≡ q
Beside (Err q) (Ok (reason.Listed p)) = ⊥
Beside (Err q) (Ok (reason.NotListed p)) = ⊥

-- ---- of a record that is there

module _ (b : Book) (w : Which) (at t : ℕ) (place : ℕ → ℕ) where
  abbrev tags : List ℕ
  tags = tags_under b w

  abbrev es : Row
  es = row_for b w

  by-column : Beside (in_column (column_in t tags) (λ c. look_of (place c) (get_or es c none))) (answer_in b w at t)
  unfolding answer_in value_for reply_in other_type
  by-column = go (column_in t tags)
    where
      other : (f : Found) → Beside no_such (other_by f tags (rows_place b w))
      other Nothing = refl
      other (At i) = refl

      absent : (l : Bool) (p : ℕ) → Beside (Ok None) (absent_at l p)
      absent true p = tt
      absent false p = tt

      entry : (s : ℕ) (o : Option (List ℕ)) (p : ℕ)
          → Beside (look_of s o) (reason_by (need (not (there o)) breaks_form 0) (absent_at (is_listed b w t) p))
      entry s none p = absent (is_listed b w t) p
      entry s (some v) p = refl

      go : (f : Found)
          → Beside (in_column f (λ c. look_of (place c) (get_or es c none)))
          (reason_by (need (not (there (value_in f es))) breaks_form 0)
          (reply_by f (other_type tags (rows_place b w) t) (λ c. absent_at (is_listed b w t) (presence_place at c))))
      go Nothing = other (column_in (upper t) (uppers_of tags))
      go (At c) = entry (place c) (get_or es c none) (presence_place at c)

by-record : (b : Book) (w : Which) → There b w → (at t : ℕ) → Beside (book_look b w t) (answer_in b w at t)
unfolding book_look
by-record b which.Header h at t = by-column b which.Header at t _
by-record b (which.Number k) h at t = rw (lt-ltb k (length b.rows) h) (by-column b (which.Number k) at t _)

-- ---- of any octets

module _ (xs : List ℕ) (o : Octets xs) (w : Which) (t : ℕ) where
  there-beside : judge xs ≡ clear → There (book_in xs) w → Beside (lookup_of xs w t) (why_of xs w t)
  there-beside e h =
      let g = book-reads xs o e in
      let l : lookup_of xs w t ≡ book_look (book_in xs) w t =
      ap (λ (ys : List ℕ). lookup_of ys w t) g.1 ∙ look_is (book_in xs) g.0 t w in
      rw (l, why-is xs o e w h t) (by-record (book_in xs) w h (start_for xs w) t)

  not_there : judge xs ≡ clear → has_record xs w ≡ false → Beside (lookup_of xs w t) (why_of xs w t)
  unfolding lookup_of look_in why_of why_at
  not_there e h = rw (e, h) (by w h)
    where
      by : (w : Which) → has_record xs w ≡ false → Beside (look_in xs w t) (Err unknown_tag)
      by which.Header h = unlike (sym h)
      by (which.Number k) h = rw h refl

  refused-beside : (r : Refusal) → judge xs ≡ Refused r → Beside (lookup_of xs w t) (why_of xs w t)
  unfolding lookup_of why_of why_at
  refused-beside r e = rw e refl

  pub beside-lookup : Beside (lookup_of xs w t) (why_of xs w t)
  beside-lookup = by (judge xs) refl
    where
      record-by : judge xs ≡ clear → (h : Bool) → has_record xs w ≡ h → Beside (lookup_of xs w t) (why_of xs w t)
      record-by e true h = there-beside e (named_in xs (book_in xs) (sym (rows-count xs)) w h)
      record-by e false h = not_there e h

      by : (v : Verdict) → judge xs ≡ v → Beside (lookup_of xs w t) (why_of xs w t)
      by (Ok _) e = record-by e (has_record xs w) refl
      by (Refused r) e = refused-beside r e
