mod Keep
