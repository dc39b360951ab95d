-- The code's query, as the definitions take it.
use Rattle.search.specs.Fit.{Query, query_of}
use Rattle.search.specs.declared.query.Query as declared

abbrev pub seen : declared.Query → Query
seen q = query_of q.stream q.profile.now q.standing.now q.opens.now q.reserves.now q.helds.now q.disk q.memory
