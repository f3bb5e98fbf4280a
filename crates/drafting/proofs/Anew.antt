-- A buffer that has the written octets as the last call left them stands for the same draft.
use Rattle.std.specs.Prelude.{ℕ, ◌≡◌, refl, List, ◌++◌, length, take, drop}
use Rattle.std.proofs.Common.{arith, sym, ap, ◌∙◌, take-append-drop, take_at}
use Rattle.std.proofs.Math.Option.{Option, none, some}
use Rattle.table.specs.Table.{Column}
use Rattle.entry.specs.Present.{Row}
use Rattle.writing.specs.declared.Writing.{Writing}
use Rattle.drafting.specs.Draft.{Part, Draft, Front, Between, Inside, StandsBy}
use Rattle.drafting.specs.Lent.{AsLeft}

pub front-anew : (st : Writing) (last d₀ d p : List ℕ) → AsLeft st last d → Front st last d₀ p → Front st d d p
front-anew st last d₀ d p a f =
    let w = f.length-is in
    let o : take st.written d ≡ take st.written last = a.octets in
    let t : take (length p) d ≡ p =
    rw w at o ∙ ap (take (length p)) f.octets ∙ take_at p (drop (length p) d₀) (length p) refl in
    record {
      octets = sym (take-append-drop (length p) d) ∙ ap (λ (x : List ℕ). x ++ drop (length p) d) t;
      length-is = w;
      room = omega (arith, a.whole);
      limit = f.limit;
    }

module _ (st : Writing) (last d₀ d : List ℕ) (a : AsLeft st last d) where
  pub between-anew : (hs cs : List Column) (rows : List Row) → Between st last d₀ hs cs rows → Between st d d hs cs rows
  between-anew hs cs rows i =
      record {
        begun = i.begun;
        front = front-anew st last d₀ d _ a
            i.front;
        opened = i.opened;
        few = i.few;
        sound = i.sound;
        idle = i.idle;
      }

  pub inside-anew : (hs cs : List Column) (rows : List Row) (p : Part) → Inside st last d₀ hs cs rows p
      → Inside st d d hs cs rows p
  inside-anew hs cs rows p i =
      record {
        begun = i.begun;
        front = front-anew st last d₀ d _ a i.front;
        opened = i.opened;
        few = i.few;
        sound = i.sound;
        start = i.start;
        next = i.next;
        left = i.left;
        wide = i.wide;
        reached = i.reached;
        blank = i.blank;
        fine = i.fine;
      }

  pub stands-anew : (dr : Draft) (o : Option Part) → StandsBy st last d₀ dr o → StandsBy st d d dr o
  stands-anew dr none i = between-anew dr.heads dr.cols dr.rows i
  stands-anew dr (some p) i = inside-anew dr.heads dr.cols dr.rows p i
