-- Why a record has no value under a tag (request 105, reading 26), said of the table that stands in a book: the columns
-- of the named record's table, and its row. `why_at` has the refusals in the published order, `reply_in` the replies.
use Rattle.std.specs.Prelude.{Err, Ok, ℕ, zero, suc, ◌+◌, ◌*◌, ◌/◌, Bool, not, cond, List, [], ◌∷◌, length, get_or, drop}
use Rattle.std.proofs.Math.Option.{Option, none, some}
use Rattle.answers.specs.Numbers.{out_of_turn, breaks_form}
use Rattle.answers.specs.Verdict.{Verdict}
use Rattle.answers.specs.Verdict.{Refused}
use Rattle.answers.specs.Verdict.{◌then◌, need}
use Rattle.whole.specs.Number.{Number}
use Rattle.whole.specs.Number.{Some, Broken}
use Rattle.whole.specs.Number.{number_of}
use Rattle.table.specs.Repeat.{memb}
use Rattle.table.specs.Found.{Found}
use Rattle.table.specs.Found.{At, Nothing}
use Rattle.entry.specs.Present.{there}
use Rattle.book.specs.Book.{Book, judge}
use Rattle.book.specs.Read.{book_in}
use Rattle.lookup.specs.Look.{column_in}
use Rattle.lookup.specs.Named.{tags_under, value_for, has_record, start_for}
use Rattle.lookup.specs.declared.Which.{Which}
use Rattle.lookup.specs.declared.Which.TheVariants as which
use Rattle.reason.specs.Reply.{Reply}
use Rattle.reason.specs.declared.Reason.TheVariants as reason

-- ---- the upper half of a tag: the property; the lower half is its type (2.9.4)

abbrev pub upper : ℕ → ℕ
upper t = t / 65536

abbrev pub uppers_of : List ℕ → List ℕ
uppers_of [] = []
uppers_of (t ∷ ts) = upper t ∷ uppers_of ts

-- ---- a column of the same upper half under another type

-- where the rows of the named record's table begin (2.9.2): behind the header, the metadata's size and the count; those
-- of the address table behind the header table and their own count
abbrev pub rows_place : Book → Which → ℕ
rows_place b which.Header = 20
rows_place b (which.Number k) = 24 + 8 * length b.heads

-- the first such column, of these tags, whose rows stand from `rows` on
abbrev pub other_by : Found → List ℕ → ℕ → Reply
other_by Nothing tags rows = Ok reason.NoColumn
other_by (At i) tags rows = Ok (reason.OtherType (get_or tags i 0) (rows + 8 * i))

unfoldable pub other_type : List ℕ → ℕ → ℕ → Reply
other_type tags rows t = other_by (column_in (upper t) (uppers_of tags)) tags rows

-- ---- the truncated properties (2.9.2.2.1): a list of numbers (2.9.6.6), which are whole tags

abbrev pub truncated : ℕ
truncated = 0x68051003

abbrev pub read : Number → (ℕ → ℕ → List ℕ) → List ℕ
read (Some (n, w)) f = f n w
read Broken f = []

-- n numbers, one behind the other
unfoldable pub numbers_from : ℕ → List ℕ → List ℕ
numbers_from zero xs = []
numbers_from (suc n) xs = read (number_of xs) (λ v w. v ∷ numbers_from n (drop w xs))

-- the numbers of a list: its count, and as many
unfoldable pub numbers_in : List ℕ → List ℕ
numbers_in xs = read (number_of xs) (λ n w. numbers_from n (drop w xs))

abbrev pub listed_in : Option (List ℕ) → List ℕ
listed_in none = []
listed_in (some v) = numbers_in v

-- whether the record lists the tag; where that column is missing or absent nothing is listed
unfoldable pub is_listed : Book → Which → ℕ → Bool
is_listed b w t = memb t (listed_in (value_for b w truncated))

-- ---- the call

-- the presence octet with the bit of column c, in the record at `at` (2.9.5)
abbrev pub presence_place : ℕ → ℕ → ℕ
presence_place at c = at + 4 + c / 8

abbrev pub absent_at : Bool → ℕ → Reply
absent_at listed place = cond listed (Ok (reason.Listed place)) (Ok (reason.NotListed place))

abbrev pub reply_by : Found → Reply → (ℕ → Reply) → Reply
reply_by Nothing r f = r
reply_by (At c) r f = f c

-- of a record at `at` that has no value under the tag
unfoldable pub reply_in : Book → Which → ℕ → ℕ → Reply
reply_in b w at t =
    reply_by (column_in t (tags_under b w)) (other_type (tags_under b w) (rows_place b w) t)
    (λ c. absent_at (is_listed b w t) (presence_place at c))

-- the book's refusals, 15 for the record, 18 where the value is present
unfoldable pub why_at : List ℕ → Which → ℕ → Verdict
why_at xs w t =
    judge xs
    then need (has_record xs w) out_of_turn 0
    then need (not (there (value_for (book_in xs) w t))) breaks_form 0

abbrev pub reason_by : Verdict → Reply → Reply
reason_by (Ok _) r = r
reason_by (Refused s) r = Err s

unfoldable pub why_of : List ℕ → Which → ℕ → Reply
why_of xs w t = reason_by (why_at xs w t) (reply_in (book_in xs) w (start_for xs w) t)
