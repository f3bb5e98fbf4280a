-- The reply is the true reason: of an accepted book and a record that is there, each reply is given exactly when its
-- cause holds in the table, and of the four causes and "present" one holds, and only one.
use Rattle.std.specs.Prelude.{Ok, Err, ℕ, ◌+◌, ◌*◌, ◌%◌, ◌<◌, ◌≡◌, Bool, false, not, List, length, get_or}
use Rattle.std.proofs.Common.{arith, sym, ◌∙◌}
use Rattle.std.proofs.Math.Path.{refl, ap}
use Rattle.std.proofs.Math.Bool.{true}
use Rattle.std.proofs.Math.Option.{Option, none, some}
use Rattle.octets.specs.Octets.{Octets}
use Rattle.answers.specs.Numbers.{breaks_form}
use Rattle.answers.specs.Verdict.{clear}
use Rattle.answers.specs.Verdict.{need}
use Rattle.value.specs.Types.{many, number, form_of, form_in, number_of, form_at}
use Rattle.table.specs.Columns.{tags-long}
use Rattle.table.specs.Repeat.{memb}
use Rattle.table.specs.Found.{Found}
use Rattle.table.specs.Found.{At, Nothing}
use Rattle.entry.specs.Present.{Row, there}
use Rattle.entry.specs.Record.{unlike}
use Rattle.book.specs.Book.{Book, Sound, judge}
use Rattle.book.specs.Read.{book_in, book-reads, rows-count}
use Rattle.lookup.specs.Look.{column_in}
use Rattle.lookup.specs.Laws.{column-below, column-tag, column-in}
use Rattle.lookup.specs.Search.{column-none, column-before, column-not, column-at, only-column}
use Rattle.lookup.specs.Named.{There, columns_for, tags_under, row_for, value_in, value_for, columns-sound, start_for}
use Rattle.lookup.specs.Named.{value-formed, has_named}
use Rattle.lookup.specs.Tagged.{Under, value-under, under-value}
use Rattle.lookup.specs.declared.Which.{Which}
use Rattle.reason.specs.Reply.{Reply}
use Rattle.reason.specs.declared.Reason.TheVariants as reason
use Rattle.reason.specs.Why.{upper, uppers_of, rows_place, other_by, other_type, truncated}
use Rattle.reason.specs.Why.{listed_in, is_listed, presence_place, absent_at, reply_by, reply_in, reason_by}
use Rattle.reason.specs.Why.{why_at, why_of}
use Rattle.reason.specs.Halves.{uppers-long, upper-at}
use Rattle.reason.specs.Numbers.{NumbersAre, numbers-back, numbers-are, Among, memb-among, among-memb}

-- ---- the causes, of the named record's table and row

-- column c has the whole tag t
pub record Whole (b : Book) (w : Which) (t c : ℕ) : Type 0 where
  pub there : c < length (columns_for b w)
  pub tag : get_or (tags_under b w) c 0 ≡ t

-- column c has the upper half of t
pub record Half (b : Book) (w : Which) (t c : ℕ) : Type 0 where
  pub there : c < length (columns_for b w)
  pub half : upper (get_or (tags_under b w) c 0) ≡ upper t

-- the whole tag has no column, and u is the first tag of its upper half, in the row at p
pub record IsOther (b : Book) (w : Which) (t u p : ℕ) : Type 0 where
  pub without : (c : ℕ) → Whole b w t c → ⊥
  pub column : ℕ
  pub like : Half b w t column
  pub first : (j : ℕ) → j < column → Half b w t j → ⊥
  pub tag : get_or (tags_under b w) column 0 ≡ u
  pub place : rows_place b w + 8 * column ≡ p

-- the tag's column has no value; its bit is in the presence octet at p of the record at `at`
pub record IsAbsent (b : Book) (w : Which) (at t p : ℕ) : Type 0 where
  pub column : ℕ
  pub whole : Whole b w t column
  pub absent : get_or (row_for b w) column none ≡ none
  pub place : presence_place at column ≡ p

-- the record's truncated properties are a list of numbers, of which t is one
pub record IsListed (b : Book) (w : Which) (t : ℕ) : Type 0 where
  pub value : List ℕ
  pub under : Under b w truncated value
  pub list : NumbersAre value
  pub among : Among t list.numbers

pub record IsPresent (b : Book) (w : Which) (t : ℕ) : Type 0 where
  pub value : List ℕ
  pub under : Under b w t value

abbrev pub present : Reply
present = Err (record { number = breaks_form; place = 0 })

-- what each reply says of the record at `at`
abbrev pub Cause : Book → Which → ℕ → ℕ → Reply → Type 0
Cause b w at t (Ok (reason.OtherType u p)) = IsOther b w t u p
Cause b w at t (Ok reason.NoColumn) = (c : ℕ) → Half b w t c → ⊥
Cause b w at t (Ok (reason.Listed p)) = IsAbsent b w at t p × IsListed b w t
Cause b w at t (Ok (reason.NotListed p)) = IsAbsent b w at t p × (IsListed b w t → ⊥)
Cause b w at t (Err r) = IsPresent b w t × (present ≡ Err r)

-- the answer of a record that is there
unfoldable pub answer_in : Book → Which → ℕ → ℕ → Reply
answer_in b w at t = reason_by (need (not (there (value_for b w t))) breaks_form 0) (reply_in b w at t)

truncated-form : form_of (truncated % 65536) ≡ many number
unfolding form_in number_of form_at form_of
truncated-form = refl

-- where the truncated column is missing or absent nothing is listed
pub nothing-listed : (b : Book) (w : Which) (t : ℕ) → value_for b w truncated ≡ none → is_listed b w t ≡ false
unfolding is_listed
nothing-listed b w t e = rw e

-- ---- in a sound book

module _ (b : Book) (s : Sound b) (w : Which) (h : There b w) (at t : ℕ) where
  abbrev tags : List ℕ
  tags = tags_under b w

  abbrev es : Row
  es = row_for b w

  below : (u c : ℕ) → column_in u tags ≡ At c → Whole b w u c
  below u c e = record { there = column-in u (columns_for b w) c e; tag = column-tag u tags c e }

  only : (u c : ℕ) → Whole b w u c → column_in u tags ≡ At c
  only u c x = only-column (columns_for b w) (columns-sound b s w) u c x.there x.tag

  reach : {c : ℕ} → c < length (columns_for b w) → c < length tags
  reach {c} l = rw (tags-long (columns_for b w)) l

  -- ---- listed

  under-numbers : (v : List ℕ) → Under b w truncated v → NumbersAre v
  under-numbers v x =
      numbers-are v
      (rw (x.tag, truncated-form) at (value-formed b s w h x.column v x.there x.value))

  is-listed : is_listed b w t ≡ true → IsListed b w t
  unfolding is_listed
  is-listed q = by (value_for b w truncated) refl q
    where
      by : (o : Option (List ℕ)) → value_for b w truncated ≡ o → memb t (listed_in o) ≡ true → IsListed b w t
      by none z q = unlike q
      by (some v) z q =
          let u = value-under b w truncated v z in
          let n = under-numbers v u in
          record { value = v; under = u; list = n; among = memb-among t n.numbers (rw (numbers-back v n) at q) }

  listed-is : IsListed b w t → is_listed b w t ≡ true
  unfolding is_listed
  listed-is x =
      rw (under-value b s w truncated x.value x.under, numbers-back x.value x.list)
      (among-memb t x.list.numbers x.among)

  not_listed : is_listed b w t ≡ false → IsListed b w t → ⊥
  not_listed e x = unlike (sym e ∙ listed-is x)

  unlisted : (IsListed b w t → ⊥) → is_listed b w t ≡ false
  unlisted f = by (is_listed b w t) refl
    where
      by : (l : Bool) → is_listed b w t ≡ l → l ≡ false
      by false e = refl
      by true e = absurd (f (is-listed e))

  -- ---- upper halves

  no-half : column_in (upper t) (uppers_of tags) ≡ Nothing → (c : ℕ) → Half b w t c → ⊥
  no-half e c x =
      column-none (upper t) (uppers_of tags) e c (rw (uppers-long tags) (reach x.there)) (upper-at tags c ∙ x.half)

  half-none : ((c : ℕ) → Half b w t c → ⊥) → column_in (upper t) (uppers_of tags) ≡ Nothing
  half-none f =
      column-not (upper t) (uppers_of tags)
      (λ j l z. f j (record {
        there = rw (tags-long (columns_for b w)) at (rw (uppers-long tags) at l);
        half = sym (upper-at tags j)
            ∙ z;
      }))

  half_at : (i : ℕ) → column_in (upper t) (uppers_of tags) ≡ At i → Half b w t i
  half_at i e =
      let l : i < length tags = rw (uppers-long tags) at (column-below (upper t) (uppers_of tags) i e) in
      record {
        there = rw (tags-long (columns_for b w)) at l;
        half = sym (upper-at tags i)
            ∙ column-tag (upper t) (uppers_of tags) i e;
      }

  half-first : (i : ℕ) → column_in (upper t) (uppers_of tags) ≡ At i → (j : ℕ) → j < i → Half b w t j → ⊥
  half-first i e j l x = column-before (upper t) (uppers_of tags) i e j l (upper-at tags j ∙ x.half)

  half-only : (i : ℕ) → Half b w t i → ((j : ℕ) → j < i → Half b w t j → ⊥)
      → column_in (upper t) (uppers_of tags) ≡ At i
  half-only i x f =
      column-at (upper t) (uppers_of tags) i (rw (uppers-long tags) (reach x.there)) (upper-at tags i ∙ x.half)
      (λ j l z. let k = x.there in f j l (record { there = omega arith; half = sym (upper-at tags j) ∙ z }))

  -- ---- whole tags

  none-whole : column_in t tags ≡ Nothing → (c : ℕ) → Whole b w t c → ⊥
  none-whole e c x = column-none t tags e c (reach x.there) x.tag

  no_whole : ((c : ℕ) → Whole b w t c → ⊥) → column_in t tags ≡ Nothing
  no_whole f = column-not t tags (λ j l z. f j (record { there = rw (tags-long (columns_for b w)) at l; tag = z }))

  -- ---- the answer is true

  pub answer-true : Cause b w at t (answer_in b w at t)
  unfolding answer_in value_for reply_in other_type
  answer-true = by (column_in t tags) refl
    where
      other : column_in t tags ≡ Nothing → (f : Found) → column_in (upper t) (uppers_of tags) ≡ f
          → Cause b w at t (other_by f tags (rows_place b w))
      other n Nothing e = no-half e
      other n (At i) e =
          record {
            without = none-whole n;
            column = i;
            like = half_at i e;
            first = half-first i e;
            tag = refl;
            place = refl;
          }

      absent : (c : ℕ) → Whole b w t c → get_or es c none ≡ none → (l : Bool) → is_listed b w t ≡ l
          → Cause b w at t (absent_at l (presence_place at c))
      absent c x e true q = (record { column = c; whole = x; absent = e; place = refl }, is-listed q)
      absent c x e false q = (record { column = c; whole = x; absent = e; place = refl }, not_listed q)

      found : (c : ℕ) → Whole b w t c → (o : Option (List ℕ)) → get_or es c none ≡ o
          → Cause b w at t
          (reason_by (need (not (there o)) breaks_form 0) (absent_at (is_listed b w t) (presence_place at c)))
      found c x none e = absent c x e (is_listed b w t) refl
      found c x (some v) e =
          (record { value = v; under = record { column = c; there = x.there; tag = x.tag; value = e } }, refl)

      by : (f : Found) → column_in t tags ≡ f
          → Cause b w at t
          (reason_by (need (not (there (value_in f es))) breaks_form 0)
          (reply_by f (other_type tags (rows_place b w) t) (λ c. absent_at (is_listed b w t) (presence_place at c))))
      by Nothing e = other e (column_in (upper t) (uppers_of tags)) refl
      by (At c) e = found c (below t c e) (get_or es c none) refl

  -- ---- and only where its cause holds

  pub answer-only : (r : Reply) → Cause b w at t r → answer_in b w at t ≡ r
  unfolding answer_in value_for reply_in other_type
  answer-only (Ok (reason.OtherType u p)) x =
      rw (no_whole x.without, half-only x.column x.like x.first, x.tag, x.place)
  answer-only (Ok reason.NoColumn) x =
      rw (no_whole (λ c y. x c (record { there = y.there; half = ap upper y.tag })), half-none x)
  answer-only (Ok (reason.Listed p)) (x, y) = rw (only t x.column x.whole, x.absent, listed-is y, x.place)
  answer-only (Ok (reason.NotListed p)) (x, y) = rw (only t x.column x.whole, x.absent, unlisted y, x.place)
  answer-only (Err r) (x, y) =
      let u = x.under in
      rw (only t u.column (record { there = u.there; tag = u.tag }), u.value) y

-- ---- the call

module _ (xs : List ℕ) (o : Octets xs) (e : judge xs ≡ clear) (w : Which) (h : There (book_in xs) w) (t : ℕ) where
  pub why-is : why_of xs w t ≡ answer_in (book_in xs) w (start_for xs w) t
  unfolding why_of why_at answer_in
  why-is = rw (e, has_named xs (book_in xs) (sym (rows-count xs)) w h)

  -- the reply's cause holds
  pub reason-true : (r : Reply) → why_of xs w t ≡ r → Cause (book_in xs) w (start_for xs w) t r
  reason-true r q =
      rw (sym why-is ∙ q) at (answer-true (book_in xs) (book-reads xs o e).0 w h (start_for xs w) t)

  -- and a reply is given where its cause holds
  pub reason-only : (r : Reply) → Cause (book_in xs) w (start_for xs w) t r → why_of xs w t ≡ r
  reason-only r x = why-is ∙ answer-only (book_in xs) (book-reads xs o e).0 w h (start_for xs w) t r x

-- one cause holds, and no other
pub record OneCause (b : Book) (w : Which) (at t : ℕ) : Type 0 where
  pub reply : Reply
  pub holds : Cause b w at t reply
  pub only : (r : Reply) → Cause b w at t r → reply ≡ r

pub one-cause : (xs : List ℕ) → Octets xs → judge xs ≡ clear → (w : Which) → There (book_in xs) w → (t : ℕ)
    → OneCause (book_in xs) w (start_for xs w) t
one-cause xs o e w h t =
    record {
      reply = why_of xs w t;
      holds = reason-true xs o e w h t (why_of xs w t) refl;
      only = reason-only xs o e w h t;
    }
