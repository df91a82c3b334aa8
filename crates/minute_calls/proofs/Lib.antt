-- Laws of events in a row.
mod EventLaws
