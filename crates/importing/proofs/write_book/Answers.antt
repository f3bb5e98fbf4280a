use Rattle.std.proofs.Common.{rules}
use Rattle.importing.specs.Cases.{write_cases, write-long, write-octets}
use Rattle.importing.proofs.write_book.Goals as goal

pub lay_down-records-requires : goal.lay_down-records-requires
lay_down-records-requires c = search (rules, write_cases)

pub finish_book-requires : goal.finish_book-requires
finish_book-requires c = search (rules, write_cases)

pub returns : goal.returns
returns c = (search write-long, search write-octets)
